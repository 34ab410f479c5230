use Rattle.std.proofs.Common.{List, Bool, length, ◌∙◌, ap, sym, subst}
use Rattle.nf_thin.proofs.Common.{IsPattern, IsForcing, unbounded_length, below_nodes}
use Rattle.nf_thin.proofs.finding.narrowed.Goals as goal

pub narrow_listing-requires-clause-ends : goal.narrow_listing-requires-clause-ends
narrow_listing-requires-clause-ends c = below_nodes c.args.ranking.now.net.now.net c.requires.ranking.named.network

pub narrow_listing-requires-clause-active : goal.narrow_listing-requires-clause-active
narrow_listing-requires-clause-active c = c.requires.ranking.sets.sets_are.count

pub narrow_listing-requires-clause-resetting : goal.narrow_listing-requires-clause-resetting
narrow_listing-requires-clause-resetting c = c.requires.ranking.sets.count

pub narrow_listing-requires-clause-unbounded : goal.narrow_listing-requires-clause-unbounded
narrow_listing-requires-clause-unbounded c =
    ap (λ (l : List Bool). length l) (c.deref.ensures.value ∙ c.in_ok-unbounded.ensures) ∙ unbounded_length c.args.ranking.now.net.now.net

pub narrow_listing-requires-clause-base : goal.narrow_listing-requires-clause-base
narrow_listing-requires-clause-base c =
    subst (λ (flags : List Bool). IsPattern c.args.ranking.now.sets.now flags c.args.ranking.now.base.now)
    (sym (c.deref.ensures.value ∙ c.in_ok-unbounded.ensures)) c.requires.ranking.base

pub narrow_listing-requires-clause-forcing : goal.narrow_listing-requires-clause-forcing
narrow_listing-requires-clause-forcing c =
    subst (λ (flags : List Bool). IsForcing c.args.ranking.now.sets.now flags c.args.forced.now) (sym (c.deref.ensures.value ∙ c.in_ok-unbounded.ensures)) c.requires.forcing

pub narrow_listing-requires-clause-sets : goal.narrow_listing-requires-clause-sets
narrow_listing-requires-clause-sets c = record {
  count = c.requires.ranking.sets.sets_are.count ∙ sym c.requires.ranking.sets.count;
  active = c.requires.ranking.sets.sets_are.resetting;
}
