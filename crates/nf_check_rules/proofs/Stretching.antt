-- Stretches of departures, one after the other.
use Rattle.std.proofs.Common.{◌≡◌, List, [], ◌∷◌, ⊎_elim, Bool, true, false, Option, Some, None, slice_get, refl, sym, ap, subst, ◌∙◌, arith, Result, Ok}
use Rattle.std.proofs.Common.{Err, pos, OnOk, if◌then◌else◌}
use Rattle.nf_check_rules.proofs.Common.{same_Some, ℚ, 0ℚ, 1ℚ, whole, ◌+ℚ◌, ◌*ℚ◌, ◌/ℚ◌, ◌≤ℚ◌, lt_ℚ, Passing, passes_Q, Checked, checked, at_part, ◌>>=◌}
use Rattle.nf_check_rules.proofs.Common.{Check, PassedAt, Point, IsCurve, Sides, checked_line, value_from, sides_at, checked_short, checked_composed}
use Rattle.nf_check_rules.proofs.Common.{after_err, after_ok, was_ok, three_times, on_rising, on_stretch, or_later, stretches_from, all_stretches}
use Rattle.nf_check_rules.proofs.Common.{difference_of, Difference, ArePlaces, ArePlacesWithin, place_within, Places, IsSentDeparture, Sent}
use Rattle.nf_rational_laws.proofs.Polynomial.{reading_of}
use Rattle.nf_rational_laws.proofs.Linear.{le, eq, linear_le, linear_eq, linear_false}
use Rattle.nf_rational_laws.proofs.Quotient.{/ℚ-times}
use Rattle.nf_curve_laws.proofs.Operations.{checked-is, then_ok, is_same_cases}
use Rattle.nf_frac_def.specs.declared.Op.TheVariants.{Sum, Quotient}
use Rattle.nf_rational.specs.Signs.{is_same}
use Rattle.nf_curve_def.specs.Values.{checked_value}
use Rattle.nf_check_def.specs.Routes.{checked_middle, detour_list}
use Rattle.nf_check_rules.specs.Sent.{sent_list}
use Rattle.nf_check_rules.specs.declared.stretches.Departure.{Departure}

pub no_stretch : (passes : Passing) (taken exits labels : List Point) (first : ℚ) (times : List ℚ) (all : Checked (Option Sides)) → times ≡ []
    → stretches_from passes taken exits labels first times ≡ all → all ≡ Ok None
no_stretch passes taken exits labels first times all e so_far = sym so_far ∙ ap (stretches_from passes taken exits labels first) e

module _ (passes : Passing) (taken exits labels : List Point) (first next : ℚ) (times rest : List ℚ) (all : Checked (Option Sides))
    (is : times ≡ next ∷ rest) (so_far : stretches_from passes taken exits labels first times ≡ all) where
  by_stretch : (on_stretch passes taken exits labels first next >>= λ here. or_later passes here (stretches_from passes taken exits labels next rest)) ≡ all
  by_stretch = sym (ap (stretches_from passes taken exits labels first) is) ∙ so_far

  pub stretch_stops : (p : PassedAt ℚ) → at_part Check (on_stretch passes taken exits labels first next) ≡ Err p → at_part Check all ≡ Err p
  stretch_stops p e = ap (at_part Check) (sym by_stretch) ∙ after_err Check (on_stretch passes taken exits labels first next) _ p e

  pub stretch_found : (sides : Sides) → at_part Check (on_stretch passes taken exits labels first next) ≡ Ok (Some sides) → at_part Check all ≡ Ok (Some sides)
  stretch_found sides e = ap (at_part Check) (sym by_stretch) ∙ after_ok Check (on_stretch passes taken exits labels first next) _ (Some sides) e

  pub stretch_goes : at_part Check (on_stretch passes taken exits labels first next) ≡ Ok None → stretches_from passes taken exits labels next rest ≡ all
  stretch_goes e =
      sym (ap (λ (r : Checked (Option Sides)). r >>= λ here. or_later passes here (stretches_from passes taken exits labels next rest))
      (was_ok Check (on_stretch passes taken exits labels first next) None e)) ∙ by_stretch

-- ---- one stretch, where what has been sent by a departure is known
module _ (passes : Passing) (taken exits labels : List Point) (first next : ℚ) where
  pub next_passes : (before : ℚ) → checked_value passes taken first ≡ Ok before → (p : PassedAt ℚ) → at_part Check (checked_value passes taken next) ≡ Err p
      → at_part Check (on_stretch passes taken exits labels first next) ≡ Err p
  next_passes before b p e =
      ap (λ (r : Checked ℚ). at_part Check (r >>= λ before. checked_value passes taken next >>= λ after. on_rising passes (lt_ℚ before after) exits labels first next)) b
      ∙ after_err Check (checked_value passes taken next) _ p e

  -- a stretch between two departures at which the amounts are known
  module _ (before after : ℚ) (first_is : checked_value passes taken first ≡ Ok before) (next_is : checked_value passes taken next ≡ Ok after)
      (rises : Bool) (test : rises ≡ lt_ℚ before after) where
    stretch_is : on_stretch passes taken exits labels first next ≡ on_rising passes rises exits labels first next
    stretch_is =
        ap (λ (r : Checked ℚ). r >>= λ before. checked_value passes taken next >>= λ after. on_rising passes (lt_ℚ before after) exits labels first next) first_is
        ∙ ap (λ (r : Checked ℚ). r >>= λ after. on_rising passes (lt_ℚ before after) exits labels first next) next_is
        ∙ ap (λ (b : Bool). on_rising passes b exits labels first next) (sym test)

    pub stretch_rises : rises ≡ true → on_stretch passes taken exits labels first next ≡ on_rising passes true exits labels first next
    stretch_rises t = stretch_is ∙ ap (λ (b : Bool). on_rising passes b exits labels first next) t

    pub stretch_level : rises ≡ false → on_stretch passes taken exits labels first next ≡ Ok None
    stretch_level t = stretch_is ∙ ap (λ (b : Bool). on_rising passes b exits labels first next) t

-- ---- the first amount needs no operation
pub first_amount : (passes : Passing) (points : List Point) (p : Point) (time : ℚ) → IsCurve points → slice_get points 0 ≡ Some p → time ≡ 0ℚ → checked_value passes points time ≡ Ok p.1
unfolding checked_value
first_amount passes [] p time c g e = absurd c
first_amount passes (x ∷ []) p time c g e = ap (λ (p : Point). Ok p.1) (same_Some _ _ g)
first_amount passes (x ∷ y ∷ rest) p time c g e = ⊎_elim
    (λ (w : (is_same time x.0 ≡ true) × (time ≡ x.0)). ap (λ (b : Bool). if b then Ok x.1 else
    (if lt_ℚ time y.0 then checked_line passes x y time else value_from passes y rest time)) w.0
    ∙ ap (λ (p : Point). Ok p.1) (same_Some _ _ g))
    (λ (w : (is_same time x.0 ≡ false) × (¬ (time ≡ x.0))). absurd (w.1 (e ∙ sym c.0)))
    (is_same_cases time x.0)

-- ---- the three curves of a link come first
abbrev together : {Y E : Type 0} → Y → Y → Result Y E → Result (Y × Y × Y) E
together a b (Ok c) = Ok (a, b, c)
together a b (Err p) = Err p

three_first : {X Y Z E : Type 0} (a b : Result X E) (c d : X → Result Y E) (e : Result Y E) (f : Y → Y → Y → Result Z E) (all : Result (Y × Y × Y) E)
    → all ≡ (a >>= λ t. b >>= λ x. c t >>= λ st. d x >>= λ sx. together st sx e)
    → (a >>= λ t. b >>= λ x. c t >>= λ st. d x >>= λ sx. e >>= λ sl. f st sx sl) ≡ (all >>= λ s. f s.0 s.1 s.2)
three_first {X} {Y} {Z} {E} a b c d e f all is = by_parts a b ∙ sym (ap (λ (r : Result (Y × Y × Y) E). r >>= λ s. f s.0 s.1 s.2) is)
  where
    last : (st sx : Y) (u : Result Y E) → (u >>= λ sl. f st sx sl) ≡ (together st sx u >>= λ s. f s.0 s.1 s.2)
    last st sx (Ok sl) = refl
    last st sx (Err p) = refl

    inner : (r s : Result Y E) → (r >>= λ st. s >>= λ sx. e >>= λ sl. f st sx sl) ≡ ((r >>= λ st. s >>= λ sx. together st sx e) >>= λ s. f s.0 s.1 s.2)
    inner (Ok st) (Ok sx) = last st sx e
    inner (Ok st) (Err p) = refl
    inner (Err p) s = refl

    by_parts : (r s : Result X E) → (r >>= λ t. s >>= λ x. c t >>= λ st. d x >>= λ sx. e >>= λ sl. f st sx sl)
        ≡ ((r >>= λ t. s >>= λ x. c t >>= λ st. d x >>= λ sx. together st sx e) >>= λ s. f s.0 s.1 s.2)
    by_parts (Ok t) (Ok x) = inner (c t) (d x)
    by_parts (Ok t) (Err p) = refl
    by_parts (Err p) s = refl

pub detour-is : (passes : Passing) (inflow exit tail_label head_label : List Point) (last : ℚ) → detour_list passes inflow exit tail_label head_label last
    ≡ (sent_list passes inflow exit tail_label head_label last >>= λ s. all_stretches passes s.0 s.1 s.2 (three_times s.0 s.1 s.2))
unfolding detour_list sent_list
detour-is passes inflow exit tail_label head_label last = three_first (checked_composed passes inflow tail_label last) (checked_composed passes exit tail_label last)
    (λ t. checked_short passes t) (λ x. checked_short passes x) (checked_short passes head_label) (λ a b c. all_stretches passes a b c (three_times a b c))
    (sent_list passes inflow exit tail_label head_label last) (all_is (checked_composed passes inflow tail_label last)
    (checked_composed passes exit tail_label last))
  where
    one : (a b : List Point) (r : Checked (List Point)) → (r >>= λ c. let all : List Point × List Point × List Point = (a, b, c) in Ok all) ≡ together a b r
    one a b (Ok c) = refl
    one a b (Err p) = refl

    two : (r s : Checked (List Point)) → (r >>= λ a. s >>= λ b. checked_short passes head_label >>= λ c.
        let all : List Point × List Point × List Point = (a, b, c) in Ok all) ≡ (r >>= λ a. s >>= λ b. together a b (checked_short passes head_label))
    two (Ok a) (Ok b) = one a b (checked_short passes head_label)
    two (Ok a) (Err p) = refl
    two (Err p) s = refl

    all_is : (r s : Checked (List Point)) → (r >>= λ t. s >>= λ x. checked_short passes t >>= λ a. checked_short passes x >>= λ b. checked_short passes
        head_label >>= λ c. let all : List Point × List Point × List Point = (a, b, c) in Ok all)
        ≡ (r >>= λ t. s >>= λ x. checked_short passes t >>= λ a. checked_short passes x >>= λ b. together a b (checked_short passes head_label))
    all_is (Ok t) (Ok x) = two (checked_short passes t) (checked_short passes x)
    all_is (Ok t) (Err p) = refl
    all_is (Err p) s = refl

-- ---- the middle of a stretch
two_apart : whole (pos 2) ≡ 0ℚ → ⊥
two_apart e = linear_false [] (eq e ∷ []) (search reading_of depth 12) tt

pub apart_by_two : (two : ℚ) → two ≡ whole (pos 2) → two ≡ 0ℚ → ⊥
apart_by_two two is e = two_apart (sym is ∙ e)

pub one_and_one : (one two : ℚ) → one ≡ 1ℚ → two ≡ one +ℚ one → two ≡ whole (pos 2)
one_and_one one two e f = linear_eq (one ∷ two ∷ []) (eq e ∷ eq f ∷ []) (search reading_of depth 12) tt tt

pub middle_from : (passes : Passing) (first next time : ℚ) → 0ℚ ≤ℚ first → 0ℚ ≤ℚ next → at_part Check (checked_middle passes first next) ≡ Ok time → 0ℚ ≤ℚ time
unfolding checked_middle
middle_from passes first next time h k e =
    let w = then_ok (checked passes Sum first next) (λ a. checked passes Quotient a (whole (pos 2))) time (was_ok Check _ time e) in
    let sum : w.between ≡ first +ℚ next = checked-is passes Sum first next w.between w.first in
    let half : time ≡ w.between /ℚ whole (pos 2) = checked-is passes Quotient w.between (whole (pos 2)) time w.next in
    let back : time *ℚ whole (pos 2) ≡ w.between = ap (λ (q : ℚ). q *ℚ whole (pos 2)) half ∙ /ℚ-times w.between (whole (pos 2)) two_apart in
    over first next time w.between h k sum back
  where
    over : (first next time sum : ℚ) → 0ℚ ≤ℚ first → 0ℚ ≤ℚ next → sum ≡ first +ℚ next → time *ℚ whole (pos 2) ≡ sum → 0ℚ ≤ℚ time
    over first next time sum h k e f = linear_le (first ∷ next ∷ time ∷ sum ∷ []) (le h ∷ le k ∷ eq e ∷ eq f ∷ []) (search reading_of depth 12) tt

-- ---- a departure whose sides are known then
pub with_sides : (sent : Sent) (there now : Departure) → IsSentDeparture sent there → (sides : Difference)
    → at_part Check (sides_at passes_Q sent.exits.points sent.labels.points there.time) ≡ Ok (difference_of sides)
    → now ≡ record there { sides = Some sides } → IsSentDeparture sent now
with_sides sent there now known sides e is = subst (λ (d : Departure). IsSentDeparture sent d) (sym is) (record {
  from_zero = known.from_zero;
  places = known.places;
  within = known.within;
  taken = known.taken;
  sides =
      λ other same. was_ok Check (sides_at passes_Q sent.exits.points sent.labels.points there.time) (difference_of sides) e
      ∙ ap (λ (d : Difference). Ok (difference_of d)) (one sides other same);
})
  where
    one : (a b : Difference) → Some a ≡ Some b → a ≡ b
    one a b e = cc

-- what holds anyway holds of an Ok
pub on_any : {X E P : Type 0} (r : Result X E) → P → OnOk r P
on_any (Ok x) p = p
on_any (Err e) p = tt

pub no_sides : {P : Type 0} (sides : Difference) → None ≡ Some sides → P
no_sides sides e = absurd (cc)

-- point counts never exceed the curves' lengths
pub places-within : (sent : Sent) (places : Places) (time : ℚ) → ArePlaces sent time places → ArePlacesWithin sent places
places-within sent places time there =
    let a = place_within time sent.taken.points in
    let b = place_within time sent.exits.points in
    let d = place_within time sent.labels.points in
    record { taken = omega (arith, there.taken); exits = omega (arith, there.exits); labels = omega (arith, there.labels) }
