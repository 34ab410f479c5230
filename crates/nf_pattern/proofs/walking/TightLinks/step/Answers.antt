use Rattle.std.proofs.Common.{◌<◌, ℕ, Option, Some, None, length, sym, ap, subst, refl, ◌∙◌, arith}
use Rattle.nf_pattern.proofs.Common.{slice_get_within, apart_from_test, same_from_test, last_at, ends_at, IsPlace, GoesBy}
use Rattle.nf_pattern.proofs.Steps.{place_link, place_within, goes_anew, read_last}
use Rattle.nf_pattern.proofs.walking.TightLinks.step.Goals as goal

pub cross-requires-clause-link : goal.cross-requires-clause-link
cross-requires-clause-link c =
    let told = place_link c.args.hops.now c.requires.placed.0 c.requires.placed.1 c.args.place.node c.in-Some.link
    (subst (λ (o : Option ℕ). IsPlace c.args.hops.now c.requires.placed.0 c.requires.placed.1 c.args.place.node o) c.in-Some.is c.requires.placed.3) in
    slice_get_within c.args.hops.now c.in-Some.link told.2 told.3

pub cross-requires-clause-tails : goal.cross-requires-clause-tails
cross-requires-clause-tails c = c.requires.placed.2.count_tails

pub cross-requires-clause-heads : goal.cross-requires-clause-heads
cross-requires-clause-heads c = c.requires.placed.2.count_heads

pub returns-in-Some-clause-goes : goal.returns-in-Some-clause-goes
returns-in-Some-clause-goes c = λ states depth holds place.
    let told = place_link c.args.hops.now states depth c.args.place.node c.in-Some.link
    (subst (λ (o : Option ℕ). IsPlace c.args.hops.now states depth c.args.place.node o) c.in-Some.is place) in
    subst (λ (o : Option ℕ). GoesBy c.args.hops.now states depth c.args.start c.args.place.node o (Some c.cross.result)) (sym c.in-Some.is)
    (c.cross.ensures.node, c.cross.ensures.link states depth holds told.0 told.1)

pub returns-in-Some-clause-place : goal.returns-in-Some-clause-place
returns-in-Some-clause-place c = λ states depth holds place.
    let told = place_link c.args.hops.now states depth c.args.place.node c.in-Some.link
    (subst (λ (o : Option ℕ). IsPlace c.args.hops.now states depth c.args.place.node o) c.in-Some.is place) in (
      c.in-Some.link,
      (let less = told.0 in omega arith),
      c.cross.ensures.link states depth holds told.0 told.1
          ∙ ap (λ (h : ℕ). last_at (ends_at c.args.hops.now states) c.in-Some.link h) (sym c.cross.ensures.node),
    )

pub returns-in-Some-clause-within : goal.returns-in-Some-clause-within
returns-in-Some-clause-within c =
    subst (λ (h : ℕ). h < length c.args.self.now.last.items) (sym c.cross.ensures.node)
    (place_within c.args.hops.now c.requires.placed.0 c.requires.placed.1 c.args.place.node c.in-Some.link (length c.args.self.now.last.items) c.requires.placed.2.below
    (subst (λ (o : Option ℕ). IsPlace c.args.hops.now c.requires.placed.0 c.requires.placed.1 c.args.place.node o) c.in-Some.is c.requires.placed.3))

pub returns-then-eq-clause-goes : goal.returns-then-eq-clause-goes
returns-then-eq-clause-goes c = λ states depth holds place.
    subst (λ (o : Option ℕ). GoesBy c.args.hops.now states depth c.args.start c.args.place.node o None) (sym c.in-None.is)
    (same_from_test c.args.place.node c.args.start (sym c.if-eq.true ∙ c.eq.ensures))

pub returns-else-eq-clause-goes : goal.returns-else-eq-clause-goes
returns-else-eq-clause-goes c = λ states depth holds place. goes_anew c.args.hops.now states depth c.args.start c.args.place.node c.args.place.link _ c.in-None.is
    (apart_from_test c.args.place.node c.args.start (sym c.if-eq.false ∙ c.eq.ensures)) refl
    (read_last c.args.hops.now states depth holds c.args.place.node c.index.result c.index-in-None.result.now c.requires.within c.index.ensures c.index-in-None.ensures)

pub returns-else-eq-clause-place : goal.returns-else-eq-clause-place
returns-else-eq-clause-place c = λ states depth holds place. (
  depth,
  omega arith,
  read_last c.args.hops.now states depth holds c.args.place.node c.index.result c.index-in-None.result.now c.requires.within c.index.ensures c.index-in-None.ensures,
)

pub returns-else-eq-clause-within : goal.returns-else-eq-clause-within
returns-else-eq-clause-within c = c.requires.within
