use Rattle.std.proofs.Common.{◌≡◌, ℕ, List, [], ◌∷◌, ◌+◌, ◌<◌, take, drop, suc, length, refl, sym, ap, arith, flat_map, codes, slice_get, unwrap_or, Some}
use Rattle.std.proofs.Common.{Option}
use Rattle.nf_app_answers.proofs.Common.{range_with_len, slice_get_read, ℚ, printed, name_at, Named, for_each, flow_line, each_next, each_left, each_all}
use Rattle.nf_app_answers.proofs.Common.{gathered_nil, gathered_next, gathered_then_failed, same_gathered}
use Rattle.nf_rational.specs.Operations.{0ℚ}
use Rattle.nf_app_answers.proofs.settle_text.put_flows.Goals as goal

line_is : (n : Named) (flows : List ℚ) (e : ℕ) (x : ℚ) → slice_get flows e ≡ Some x → (codes "flow" ∷ name_at n.link_names e ∷ printed x ∷ []) ∷ [] ≡ flow_line n flows e
line_is n flows e x is = ap (λ (o : Option ℚ). (codes "flow" ∷ name_at n.link_names e ∷ printed (unwrap_or o 0ℚ) ∷ []) ∷ []) (sym is)

pub loop-link-init : goal.loop-link-init
loop-link-init g c = gathered_nil

pub loop-link-preserved : goal.loop-link-preserved
loop-link-preserved g c =
    let i = c.loop-link.link in
    let n = length c.args.net.now.net.links in
    let below : i < n = omega arith in
    let there = slice_get_read c.args.flows.now (length c.args.flows.now) i c.index-flows-link.result refl (omega arith) c.index-flows-link.is in
    gathered_next (flat_map (flow_line c.args.net.now c.args.flows.now) (take i (range_with_len 0 n))) ((flow_line c.args.net.now c.args.flows.now) i)
    (flat_map (flow_line c.args.net.now c.args.flows.now) (take (i + 1) (range_with_len 0 n)))
    (each_next n (flow_line c.args.net.now c.args.flows.now) i below) c.loop-link.invariant
    (same_gathered _ _ (line_is c.args.net.now c.args.flows.now i c.index-flows-link.result there) c.in_ok-put_flow.ensures)

pub returns-in_err-put_flow : goal.returns-in_err-put_flow
returns-in_err-put_flow g c =
    let i = c.loop-link.link in
    let n = length c.args.net.now.net.links in
    let below : i < n = omega arith in
    let there = slice_get_read c.args.flows.now (length c.args.flows.now) i c.index-flows-link.result refl (omega arith) c.index-flows-link.is in
    gathered_then_failed (flat_map (flow_line c.args.net.now c.args.flows.now) (take i (range_with_len 0 n)))
    ((flow_line c.args.net.now c.args.flows.now) i) (flat_map (flow_line c.args.net.now c.args.flows.now) (drop (suc i) (range_with_len 0 n)))
    (for_each n (flow_line c.args.net.now c.args.flows.now)) _ (each_left n (flow_line c.args.net.now c.args.flows.now) i below) c.from_residual.ensures.0 c.loop-link.invariant
    (same_gathered _ _ (line_is c.args.net.now c.args.flows.now i c.index-flows-link.result there) c.in_err-put_flow.ensures)

pub returns : goal.returns
returns g c =
    let i = c.loop-link.link in
    let n = length c.args.net.now.net.links in
    let end : i ≡ n = omega arith in
    same_gathered (flat_map (flow_line c.args.net.now c.args.flows.now) (take i (range_with_len 0 n)))
    (for_each n (flow_line c.args.net.now c.args.flows.now)) (each_all n (flow_line c.args.net.now c.args.flows.now) i end) c.loop-link.invariant
