use Rattle.std.proofs.Common.{◌≡◌, ℕ, ◌≤◌, length, map, List, Option, Some, slice_get, sym, ◌∙◌, ap, subst, arith, IfOk}
use Rattle.nf_net.proofs.Common.{ℚ, AreDistances}
use Rattle.nf_net.proofs.Limits.{few_links}
use Rattle.nf_net.proofs.StartLabels.{net_below, net_transits, net_hops, never_none, labels_by_sums}
use Rattle.nf_net.proofs.labels.start_labels.Goals as goal

pub distances-requires-clause-ends : goal.distances-requires-clause-ends
distances-requires-clause-ends c =
    rw c.node_count.ensures (net_below c.args.net.now c.hops-hops.ensures.named c.hops-hops.result.now c.hops-hops.ensures.value)

pub distances-requires-clause-fewer : goal.distances-requires-clause-fewer
distances-requires-clause-fewer c =
    let few : length c.args.net.now.net.links ≤ 200 = few_links c.args.net.now c.hops-hops.ensures.named in
    let same : length c.hops-hops.result.now ≡ length c.args.net.now.net.links = net_hops c.args.net.now c.hops-hops.ensures.named c.hops-hops.result.now c.hops-hops.ensures.value in
    omega arith

pub distances-requires-clause-transits : goal.distances-requires-clause-transits
distances-requires-clause-transits c = net_transits c.args.net.now c.hops-hops.ensures.named c.hops-hops.result.now c.hops-hops.ensures.value

pub given_sums-requires : goal.given_sums-requires
given_sums-requires c =
    let d : AreDistances c.args.net.now.net.nodes c.hops-hops.result.now c.args.net.now.net.source c.in-Ok.sums.items =
    subst (λ (k : ℕ). AreDistances k c.hops-hops.result.now c.args.net.now.net.source c.in-Ok.sums.items) c.node_count.ensures
    (subst (λ (k : ℕ). AreDistances c.node_count.result c.hops-hops.result.now k c.in-Ok.sums.items) c.source-source.ensures.value c.in-Ok.ensures.sums) in
    λ v e. never_none c.args.net.now c.hops-hops.ensures.named c.hops-hops.result.now c.hops-hops.ensures.value c.in-Ok.sums.items d v
    (ap (λ (l : List (Option ℚ)). slice_get l v) (sym c.deref.ensures.value) ∙ e)

pub returns-in-Ok : goal.returns-in-Ok
returns-in-Ok c =
    let d : AreDistances c.args.net.now.net.nodes c.hops-hops.result.now c.args.net.now.net.source c.in-Ok.sums.items =
    subst (λ (k : ℕ). AreDistances k c.hops-hops.result.now c.args.net.now.net.source c.in-Ok.sums.items) c.node_count.ensures
    (subst (λ (k : ℕ). AreDistances c.node_count.result c.hops-hops.result.now k c.in-Ok.sums.items) c.source-source.ensures.value c.in-Ok.ensures.sums) in
    labels_by_sums c.args.net.now c.hops-hops.ensures.named c.hops-hops.result.now c.hops-hops.ensures.value c.in-Ok.sums.items c.given_sums.result d
    (subst (λ (l : List (Option ℚ)). IfOk c.given_sums.result (λ numbers. map (λ q. Some q) numbers.items ≡ l)) c.deref.ensures.value c.given_sums.ensures)
