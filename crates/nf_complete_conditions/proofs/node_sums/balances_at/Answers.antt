use Rattle.std.proofs.Common.{Bool, eqb, if◌then◌else◌, ap, ◌∙◌}
use Rattle.nf_complete_conditions.proofs.Common.{err_from_is_err_and, ℚ, passes_Q, at_part, Verdict, with_rate, same_test}
use Rattle.nf_complete_conditions.proofs.Balancing.{stay_passes, balance_told}
use Rattle.nf_complete_conditions.proofs.node_sums.balances_at.Goals as goal

pub returns-in_err-all : goal.returns-in_err-all
returns-in_err-all c =
    let p = err_from_is_err_and c.from_residual-in_err-all.result c.from_residual-in_err-all.ensures.1 in
    rw (p.1, p.2) (stay_passes passes_Q c.args.net.now.net c.args.sets.now c.args.rate c.args.flows.now c.args.node
    c.in_ok-by_links.by_links (c.in_ok-by_links.ensures c.args.rate) c.in_ok-sent.sent (c.in_ok-sent.ensures c.args.rate) c.in_err-all.field-0.0
    (c.in_err-all.ensures c.args.net.now.net c.args.sets.now c.args.flows.now
    ∙ ap (λ (b : Bool). at_part Verdict (with_rate passes_Q c.args.net.now.net c.args.sets.now c.args.rate c.args.flows.now b c.in_ok-sent.sent))
    (c.eq.ensures ∙ ap (eqb c.args.node) c.sink.ensures.value)))

pub returns : goal.returns
returns c = balance_told passes_Q c.args.net.now.net c.args.sets.now c.args.rate c.args.flows.now c.args.node
    c.in_ok-by_links.by_links (c.in_ok-by_links.ensures c.args.rate) c.in_ok-sent.sent (c.in_ok-sent.ensures c.args.rate) c.in_ok-all.all
    (c.in_ok-all.ensures c.args.net.now.net c.args.sets.now c.args.flows.now
    ∙ ap (λ (b : Bool). at_part Verdict (with_rate passes_Q c.args.net.now.net c.args.sets.now c.args.rate c.args.flows.now b c.in_ok-sent.sent))
    (c.eq.ensures ∙ ap (eqb c.args.node) c.sink.ensures.value))
    c.is_same.result
    (c.is_same.ensures ∙ ap (λ (x : ℚ). same_test x c.in_ok-all.all) (c.brought-brought.ensures
    ∙ ap (λ (b : Bool). if b then c.args.rate else c.in_ok-by_links.by_links) (c.eq-2.ensures ∙ ap (eqb c.args.node) c.source.ensures.value)))
