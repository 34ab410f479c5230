use Rattle.std.proofs.Common.{List, [], ◌∷◌, ◌++◌, length, ap, refl, sym, append_assoc, codes}
use Rattle.nf_app_answers.proofs.Common.{ℚ, for_each, state_lines, flow_line, settled_lines, gathered_next, gathered_failed, gathered_then_failed}
use Rattle.nf_app_answers.proofs.Common.{same_gathered}
use Rattle.nf_app_answers.proofs.settle_text.put_settled.Goals as goal

pub returns-in_err-put_states : goal.returns-in_err-put_states
returns-in_err-put_states g c =
    let n = length c.args.net.now.net.links in
    let s = c.args.settled.now in
    gathered_failed (for_each n (state_lines c.args.net.now s.pattern)) (for_each n (flow_line c.args.net.now s.flows.items) ++ (codes "end" ∷ []) ∷ []) (settled_lines c.args.net.now s.pattern s.flows.items)
    c.from_residual.result (sym (append_assoc (for_each n (state_lines c.args.net.now s.pattern)) (for_each n (flow_line c.args.net.now s.flows.items)) ((codes "end" ∷ []) ∷ [])))
    c.from_residual.ensures.0 c.in_err-put_states.ensures

pub returns-in_err-put_flows : goal.returns-in_err-put_flows
returns-in_err-put_flows g c =
    let n = length c.args.net.now.net.links in
    let s = c.args.settled.now in
    gathered_then_failed (for_each n (state_lines c.args.net.now s.pattern)) (for_each n (flow_line c.args.net.now s.flows.items)) ((codes "end" ∷ []) ∷ []) (settled_lines c.args.net.now s.pattern s.flows.items)
    c.from_residual-in_err-put_flows.result refl c.from_residual-in_err-put_flows.ensures.0 c.in_ok-put_states.ensures
    (same_gathered _ _ (ap (λ (l : List ℚ). for_each n (flow_line c.args.net.now l)) c.deref.ensures.value) c.in_err-put_flows.ensures)

pub returns : goal.returns
returns g c =
    let n = length c.args.net.now.net.links in
    let s = c.args.settled.now in
    let states = for_each n (state_lines c.args.net.now s.pattern) in
    let flows = for_each n (flow_line c.args.net.now s.flows.items) in
    gathered_next (states ++ flows) ((codes "end" ∷ []) ∷ []) (settled_lines c.args.net.now s.pattern s.flows.items) refl
    (gathered_next states flows (states ++ flows) refl c.in_ok-put_states.ensures
    (same_gathered _ _ (ap (λ (l : List ℚ). for_each n (flow_line c.args.net.now l)) c.deref.ensures.value) c.in_ok-put_flows.ensures)) c.put_line.ensures
