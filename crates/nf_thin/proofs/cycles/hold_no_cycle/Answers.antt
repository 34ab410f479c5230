use Rattle.std.proofs.Common.{List, Bool, length, sym, ap, ◌∙◌}
use Rattle.nf_thin.proofs.Common.{Hop, hops_length, below_nodes}
use Rattle.nf_net.proofs.Limits.{few_hops}
use Rattle.nf_thin.proofs.NoCycle.{ordered_round}
use Rattle.nf_thin.proofs.cycles.hold_no_cycle.Goals as goal

pub topological-requires-clause-ends : goal.topological-requires-clause-ends
topological-requires-clause-ends c = rw (c.node_count.ensures, c.hops.ensures.value) (below_nodes c.args.net.now.net c.hops.ensures.named.network)

pub topological-requires-clause-count : goal.topological-requires-clause-count
topological-requires-clause-count c =
    ap (λ (l : List Bool). length l) (c.deref.ensures.value ∙ c.in_ok-active.ensures)
    ∙ (c.requires ∙ (sym (hops_length c.args.net.now.net) ∙ ap (λ (l : List Hop). length l) (sym c.hops.ensures.value)))

pub topological-requires-clause-fewer : goal.topological-requires-clause-fewer
topological-requires-clause-fewer c = rw (c.hops.ensures.value) (few_hops c.args.net.now c.hops.ensures.named)

pub returns-in-Some : goal.returns-in-Some
returns-in-Some c =
    λ _. ordered_round c.args.net.now.net c.args.sets.now c.hops.result.now c.deref.result.now c.in_ok-topological.field-0 c.in-Some.field-0
    c.hops.ensures.value (c.deref.ensures.value ∙ c.in_ok-active.ensures) c.in-Some.is c.in_ok-topological.ensures.none
