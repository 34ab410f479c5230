use Rattle.std.proofs.Common.{◌≡◌, List, length, sym, ap, subst, ◌∙◌}
use Rattle.nf_phase.proofs.Common.{passes_Q, Hop, Sets, sets_at, Pattern, IsPattern, IsBase, Standing, AreSetsOf, below_nodes, hops_length}
use Rattle.nf_model.specs.Network.{hops as hops_of, unbounded}
use Rattle.nf_net.proofs.Limits.{few_hops}
use Rattle.nf_phase.proofs.Reached.{Stands-reached, active_count, sets_fit, base_fits}
use Rattle.nf_phase.proofs.run.Run.thin.Goals as goal

pub base-requires-clause-ends : goal.base-requires-clause-ends
base-requires-clause-ends c = rw (c.node_count.ensures, c.hops.ensures.value) (below_nodes c.args.net.now.net c.hops.ensures.named.network)

pub base-requires-clause-last : goal.base-requires-clause-last
base-requires-clause-last c =
    let good = c.hops.ensures.named.network in
    let stands = Stands-reached passes_Q c.args.net.now.net good c.args.self.now c.requires.reaches in
    ap (λ (s : Standing). length s.last) c.self.view_is ∙ stands.last_count ∙ sym (hops_length c.args.net.now.net) ∙ ap (λ (hs : List Hop). length hs) (sym c.hops.ensures.value)

pub base-requires-clause-fewer : goal.base-requires-clause-fewer
base-requires-clause-fewer c = rw (c.hops.ensures.value) (few_hops c.args.net.now c.hops.ensures.named)

pub find_thin-requires-clause-sets : goal.find_thin-requires-clause-sets
find_thin-requires-clause-sets c =
    let good = c.hops.ensures.named.network in
    let stands = Stands-reached passes_Q c.args.net.now.net good c.args.self.now c.requires.reaches in
    subst (λ (sets : Sets). AreSetsOf c.args.net.now.net sets) (sym c.requires.sets) (sets_fit c.args.net.now.net good c.args.self.now stands)

pub find_thin-requires-clause-base : goal.find_thin-requires-clause-base
find_thin-requires-clause-base c =
    let good = c.hops.ensures.named.network in
    let stands = Stands-reached passes_Q c.args.net.now.net good c.args.self.now c.requires.reaches in
    let last : c.self.inside.last ≡ c.args.self.now.last = ap (λ (s : Standing). s.last) c.self.view_is in
    subst (λ (sets : Sets). IsPattern sets (unbounded c.args.net.now.net) c.in_ok-base.base) (sym c.requires.sets)
    (base_fits c.args.net.now.net good c.args.self.now stands c.in_ok-base.base
    (subst (λ (p : Pattern). IsBase (hops_of c.args.net.now.net) (sets_at c.args.net.now.net c.args.self.now.labels) p c.in_ok-base.base) last
    (subst (λ (sets : Sets). IsBase (hops_of c.args.net.now.net) sets c.self.inside.last c.in_ok-base.base) c.requires.sets
    (subst (λ (hs : List Hop). IsBase hs c.args.sets.now c.self.inside.last c.in_ok-base.base) c.hops.ensures.value c.in_ok-base.ensures))))

pub base-requires-clause-sets : goal.base-requires-clause-sets
base-requires-clause-sets c =
    ap (λ (s : Sets). length s.active) c.requires.sets ∙ active_count c.args.net.now.net c.args.self.now.labels ∙ sym (hops_length c.args.net.now.net)
    ∙ ap (λ (hs : List Hop). length hs) (sym c.hops.ensures.value)
