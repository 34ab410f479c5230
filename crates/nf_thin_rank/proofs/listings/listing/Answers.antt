use Rattle.std.proofs.Common.{List, Bool, length, ◌∙◌, ap, sym, subst, ◌≡◌}
use Rattle.nf_thin_rank.proofs.Common.{Hop, hops_length, unbounded_length, below_nodes, few_hops, IfOk-weaker, IsPattern, Given}
use Rattle.nf_thin_rank.proofs.listings.listing.Goals as goal

pub new-requires-clause-ends : goal.new-requires-clause-ends
new-requires-clause-ends c = rw (c.node_count-nodes.ensures, c.hops-hops.ensures.value) (below_nodes c.args.ranking.now.net.now.net c.requires.ranking.named.network)

pub new-requires-clause-active : goal.new-requires-clause-active
new-requires-clause-active c =
    c.requires.ranking.sets.sets_are.count ∙ (sym (hops_length c.args.ranking.now.net.now.net)
    ∙ ap (λ (l : List Hop). length l) (sym c.hops-hops.ensures.value))

pub new-requires-clause-unbounded : goal.new-requires-clause-unbounded
new-requires-clause-unbounded c =
    ap (λ (l : List Bool). length l) (c.deref.ensures.value ∙ c.in_ok-unbounded.ensures)
    ∙ (unbounded_length c.args.ranking.now.net.now.net ∙ (sym (hops_length c.args.ranking.now.net.now.net) ∙ ap (λ (l : List Hop). length l) (sym c.hops-hops.ensures.value)))

pub new-requires-clause-resetting : goal.new-requires-clause-resetting
new-requires-clause-resetting c = c.requires.ranking.sets.count ∙ (sym (hops_length c.args.ranking.now.net.now.net) ∙ ap (λ (l : List Hop). length l) (sym c.hops-hops.ensures.value))

pub new-requires-clause-fewer : goal.new-requires-clause-fewer
new-requires-clause-fewer c = rw (c.hops-hops.ensures.value) (few_hops c.args.ranking.now.net.now c.requires.ranking.named)

pub new-requires-clause-base : goal.new-requires-clause-base
new-requires-clause-base c =
    subst (λ (flags : List Bool). IsPattern c.args.ranking.now.sets.now flags c.args.base.now) (sym (c.deref.ensures.value ∙ c.in_ok-unbounded.ensures)) c.requires.base

pub returns-clause-base : goal.returns-clause-base
returns-clause-base c =
    IfOk-weaker c.new.result _ (λ patterns. patterns.question.base ≡ c.args.base.now) (λ patterns e. ap (λ (given : Given). given.question.base) e) c.new.ensures

pub returns-clause-place : goal.returns-clause-place
returns-clause-place c =
    IfOk-weaker c.new.result _ (λ patterns. patterns.place ≡ 0) (λ patterns e. ap (λ (given : Given). given.place) e) c.new.ensures
