use Rattle.std.proofs.Common.{◌<◌, List, Bool, length, sym, ap, subst, ◌∙◌, IfOk, MatchOption}
use Rattle.nf_complete.proofs.Common.{Has, hops, IsForest, ClosesFirst, flags_by_flows, few_hops}
use Rattle.nf_model.specs.Walk.{Hop}
use Rattle.nf_graph.proofs.NetworkHops.{hops_length, below_nodes}
use Rattle.nf_complete.proofs.settling.next_cycle.Goals as goal

pub interior-requires-clause-fulls : goal.interior-requires-clause-fulls
interior-requires-clause-fulls c = c.requires.fulls ∙ sym c.link_count.ensures

pub first_cycle-requires-clause-ends : goal.first_cycle-requires-clause-ends
first_cycle-requires-clause-ends c = rw (c.node_count.ensures, c.hops.ensures.value) (below_nodes c.args.net.now.net c.hops.ensures.named.network)

pub first_cycle-requires-clause-count : goal.first_cycle-requires-clause-count
first_cycle-requires-clause-count c =
    ap length (c.deref.ensures.value ∙ c.in_ok-interior.ensures) ∙ flags_by_flows c.args.sets.now c.args.fulls.now c.args.flows.now ∙ c.requires.flows
    ∙ sym (ap length c.hops.ensures.value ∙ hops_length c.args.net.now.net)

pub first_cycle-requires-clause-fewer : goal.first_cycle-requires-clause-fewer
first_cycle-requires-clause-fewer c = rw (c.hops.ensures.value) (few_hops c.args.net.now c.hops.ensures.named)

pub first_cycle-requires-clause-known : goal.first_cycle-requires-clause-known
first_cycle-requires-clause-known c =
    subst (λ (h : List Hop). IsForest h (λ e. (e < c.args.known) × Has c.deref.result.now e)) (sym c.hops.ensures.value)
    (subst (λ (f : List Bool). IsForest (hops c.args.net.now.net) (λ e. (e < c.args.known) × Has f e)) (sym (c.deref.ensures.value ∙ c.in_ok-interior.ensures)) c.requires.known)

pub returns : goal.returns
returns c =
    subst (λ (f : List Bool). IfOk c.first_cycle.result (λ found. MatchOption found (IsForest (hops c.args.net.now.net) (Has f))
    (λ cycle. ClosesFirst (hops c.args.net.now.net) f cycle.last cycle.steps.items)))
    (c.deref.ensures.value ∙ c.in_ok-interior.ensures)
    (subst (λ (h : List Hop). IfOk c.first_cycle.result (λ found. MatchOption found (IsForest h (Has c.deref.result.now))
    (λ cycle. ClosesFirst h c.deref.result.now cycle.last cycle.steps.items))) c.hops.ensures.value c.first_cycle.ensures)
