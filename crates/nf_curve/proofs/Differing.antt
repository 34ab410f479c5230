-- The corners before the last time at which two curves may differ, in order.
use Rattle.std.proofs.Common.{◌≡◌, ◌≤◌, List, [], ◌∷◌, length, ⊎_elim, Bool, true, false, refl, sym, ap, subst, ◌∙◌, arith, Option, Some, None, Ok, Err}
use Rattle.std.proofs.Common.{IfSome, if◌then◌else◌}
use Rattle.nf_curve.proofs.Common.{ℚ, ◌≤ℚ◌, ◌<ℚ◌, lt_ℚ, lt_ℚ_cases, Passing, Part, PassedAt, Checked, at_part, ◌>>=◌, Point, Sides, sides_at, do_differ}
use Rattle.nf_curve.proofs.Common.{times_before, if_differ, differ_at, difference_here, difference_from, IsThere, times_left, only_before, difference_step}
use Rattle.nf_curve.proofs.Common.{Moment, not_both_ℚ}
use Rattle.nf_curve.proofs.Exits.{after_err, after_ok, was_ok}

-- ---- a step
or_later : Option Sides → Checked (Option Sides) → Checked (Option Sides)
or_later (Some sides) later = Ok (Some sides)
or_later None later = later

module _ (passes : Passing) (left right : List Point) (last : ℚ) where
  from-step : (time : ℚ) (times : List ℚ) → difference_from passes left right last
      (time ∷ times) ≡ (difference_step passes left right time >>= λ found. or_later found (difference_from passes left right last times))
  unfolding or_later
  from-step time times = by_sides (sides_at passes left right time)
    where
      by_corner : (s : Sides) (d : Checked Bool) → (d >>= λ ends. difference_here passes left right s ends (difference_from passes left right last times))
          ≡ ((d >>= λ ends. Ok (if ends then Some s else None)) >>= λ found. or_later found (difference_from passes left right last times))
      by_corner s (Ok true) = refl
      by_corner s (Ok false) = refl
      by_corner s (Err q) = refl

      by_sides : (r : Checked Sides) → (r >>= λ s. differ_at passes (do_differ s) time left right >>= λ ends. difference_here passes left right s ends
          (difference_from passes left right last times))
          ≡ ((r >>= λ s. differ_at passes (do_differ s) time left right >>= λ ends. Ok (if ends then Some s else None)) >>= λ found. or_later found
          (difference_from passes left right last times))
      by_sides (Ok s) = by_corner s (differ_at passes (do_differ s) time left right)
      by_sides (Err q) = refl

  before-goes : (time : ℚ) (times : List ℚ) → time <ℚ last → times_before last (time ∷ times) ≡ time ∷ times_before last times
  before-goes time times h = ⊎_elim
      (λ (w : (lt_ℚ time last ≡ true) × (time <ℚ last)). ap (λ (b : Bool). if b then time ∷ times_before last times else []) w.0)
      (λ (w : (lt_ℚ time last ≡ false) × (last ≤ℚ time)). absurd (not_both_ℚ time last h w.1))
      (lt_ℚ_cases time last)

  module _ (part : Part) (time : ℚ) (times : List ℚ) (all : Checked (Option Sides)) (before : time <ℚ last)
      (so_far : difference_from passes left right last (times_before last (time ∷ times)) ≡ all) where
    is-step : (difference_step passes left right time >>= λ found. or_later found (difference_from passes left right last (times_before last times))) ≡ all
    is-step = sym (ap (difference_from passes left right last) (before-goes time times before) ∙ from-step time (times_before last times)) ∙ so_far

    pub step_stops : (p : PassedAt ℚ) → at_part part (difference_step passes left right time) ≡ Err p → at_part part all ≡ Err p
    step_stops p e = ap (at_part part) (sym is-step) ∙ after_err part (difference_step passes left right time) _ p e

    pub step_ends : (sides : Sides) → at_part part (difference_step passes left right time) ≡ Ok (Some sides) → at_part part all ≡ Ok (Some sides)
    unfolding or_later
    step_ends sides e = ap (at_part part) (sym is-step) ∙ after_ok part (difference_step passes left right time) _ (Some sides) e

    pub step_goes : at_part part (difference_step passes left right time) ≡ Ok None → difference_from passes left right last (times_before last times) ≡ all
    unfolding or_later
    step_goes e = sym (ap (λ (r : Checked (Option Sides)). r >>= λ found. or_later found (difference_from passes left right last (times_before last times)))
        (was_ok part (difference_step passes left right time) None e)) ∙ is-step

  -- the last time
  module _ (part : Part) (all : Checked (Option Sides)) (so_far : difference_from passes left right last [] ≡ all) where
    pub last_stops : (p : PassedAt ℚ) → at_part part (sides_at passes left right last) ≡ Err p → at_part part all ≡ Err p
    last_stops p e = ap (at_part part) (sym so_far) ∙ after_err part (sides_at passes left right last) _ p e

    pub last_found : (sides : Sides) (differ : Bool) → Ok sides ≡ at_part part (sides_at passes left right last) → do_differ sides ≡ differ
        → Ok (if differ then Some sides else None) ≡ at_part part all
    last_found sides differ e t = sym (ap (at_part part) (sym so_far) ∙ after_ok part (sides_at passes left right last) (λ sides. Ok (if_differ sides)) sides (sym e)
        ∙ ap (λ (t : Bool). Ok (if t then Some sides else None)) t)

-- ---- the remaining times of a merge that ends before the last time
module _ (last : ℚ) (left right : List Point) where
  by_test : {P : Type 0} (moment : Moment) → (lt_ℚ moment.time last ≡ true → moment.time <ℚ last → P) → (lt_ℚ moment.time last ≡ false → P) → P
  by_test moment f g = ⊎_elim
      (λ (w : (lt_ℚ moment.time last ≡ true) × (moment.time <ℚ last)). f w.0 w.1)
      (λ (w : (lt_ℚ moment.time last ≡ false) × (last ≤ℚ moment.time)). g w.0)
      (lt_ℚ_cases moment.time last)

  pub only-before : (now : Option Moment) → IfSome (only_before last now) (λ moment. moment.time <ℚ last)
  only-before None = tt
  only-before (Some moment) = by_test moment
      (λ t h. subst (λ (b : Bool). IfSome (if b then Some moment else None) (λ moment. moment.time <ℚ last)) (sym t) h)
      (λ t. subst (λ (b : Bool). IfSome (if b then Some moment else None) (λ moment. moment.time <ℚ last)) (sym t) tt)

  pub only-there : (now : Option Moment) → IsThere left right now → IsThere left right (only_before last now)
  only-there None w = tt
  only-there (Some moment) w = by_test moment
      (λ t h. subst (λ (b : Bool). IsThere left right (if b then Some moment else None)) (sym t) w)
      (λ t. subst (λ (b : Bool). IsThere left right (if b then Some moment else None)) (sym t) tt)

  pub only-times : (now : Option Moment) → times_before last (times_left left right (only_before last now)) ≡ times_before last (times_left left right now)
  only-times None = refl
  only-times (Some moment) = by_test moment
      (λ t h. ap (λ (b : Bool). times_before last (times_left left right (if b then Some moment else None))) t)
      (λ t. ap (λ (b : Bool). times_before last (times_left left right (if b then Some moment else None))) t
      ∙ sym (ap (λ (b : Bool). if b then moment.time ∷ times_before last (Rattle.nf_curve.specs.Places.times_after moment.time left right) else []) t))

  pub only-fewer : (now : Option Moment) → length (times_left left right (only_before last now)) ≤ length (times_left left right now)
  only-fewer None = omega arith
  only-fewer (Some moment) = by_test moment
      (λ t h. subst (λ (b : Bool). length (times_left left right (if b then Some moment else None)) ≤ length (times_left left right (Some moment))) (sym t) (omega arith))
      (λ t. subst (λ (b : Bool). length (times_left left right (if b then Some moment else None)) ≤ length (times_left left right (Some moment))) (sym t) (omega arith))

  -- all of this
  pub record Kept (now kept : Option Moment) : Type 0 where
    pub there : IsThere left right kept
    pub before : IfSome kept (λ moment. moment.time <ℚ last)
    pub times : times_before last (times_left left right kept) ≡ times_before last (times_left left right now)
    pub fewer : length (times_left left right kept) ≤ length (times_left left right now)

  pub kept-before : (now kept : Option Moment) → kept ≡ only_before last now → IsThere left right now → Kept now kept
  kept-before now kept e w =
      subst (λ (k : Option Moment). Kept now k) (sym e) (record {
        there = only-there now w;
        before = only-before now;
        times = only-times now;
        fewer =
            only-fewer now;
      })

-- what a step gives, by the tests that it makes
pub step_found : (passes : Passing) (left right : List Point) (time : ℚ) (part : Part) (sides : Sides) (differ ends found : Bool)
    → Ok sides ≡ at_part part (sides_at passes left right time)
    → do_differ sides ≡ differ → Ok ends ≡ at_part part (differ_at passes differ time left right) → ends ≡ found
    → Ok (if found then Some sides else None) ≡ at_part part (difference_step passes left right time)
step_found passes left right time part sides differ ends found e t d f =
    sym (after_ok part (sides_at passes left right time) (λ sides. differ_at passes (do_differ sides) time left right >>= λ ends. Ok (if ends then Some sides else None)) sides (sym e)
    ∙ ap (λ (t : Bool). at_part part (differ_at passes t time left right >>= λ ends. Ok (if ends then Some sides else None))) t
    ∙ after_ok part (differ_at passes differ time left right) (λ ends. Ok (if ends then Some sides else None)) ends (sym d)
    ∙ ap (λ (t : Bool). Ok (if t then Some sides else None)) f)
