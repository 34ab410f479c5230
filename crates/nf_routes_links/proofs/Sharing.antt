-- The points of what a route sends on: their times and their values rise.
use Rattle.std.proofs.Common.{◌≡◌, List, [], ◌∷◌, ⊎_elim, Bool, true, false, refl, sym, ap, subst, ◌∙◌, Result, Ok, Err, IfOk}
use Rattle.nf_routes_links.proofs.Common.{ℚ, 0ℚ, ◌≤ℚ◌, ◌<ℚ◌, ≤ℚ_of_lt, ≤ℚ_antisymm, lt_or_le_ℚ, ≤ℚ_refl, ≤ℚ_trans, Halt, PassedAt, Load, Passing, Checked}
use Rattle.nf_routes_links.proofs.Common.{Gives, at_part, each, Point, value, TimesRise, IsCurve, value-first, NeverFalls-value, is_same, checked_short}
use Rattle.nf_routes_links.proofs.Common.{both_times, sides_at, then_ok, is_same_cases, checked_short-is, after_err, after_ok, was_ok, same_Ok}
use Rattle.nf_routes_links.proofs.Common.{IsAmountCurve, AreExits, ValuesRise, next_from}
use Rattle.nf_curve_def.specs.Lines.{Sides}
use Rattle.nf_curve_laws.proofs.Times.{NextOnes, both_times-next}
use Rattle.nf_curve_laws.proofs.Pieces.{AreSides, sides_at-is}
use Rattle.nf_routes_def.specs.RoutesList.{next_entry}
use Rattle.nf_routes_links.proofs.Amounts.{short_amount}

strictly : (x y : ℚ) → x ≤ℚ y → (x ≡ y → ⊥) → x <ℚ y
strictly x y h n = ⊎_elim (λ (l : x <ℚ y). l) (λ (l : y ≤ℚ x). absurd (n (≤ℚ_antisymm x y h l))) (lt_or_le_ℚ x y)

module _ (passes : Passing) (exit entry : List Point) (exits : AreExits exit) (amount : IsAmountCurve entry) where
  abbrev A : ℚ → ℚ
  A t = value entry t

  abbrev X : ℚ → ℚ
  X t = value exit t

  -- from a point on
  record Climbs (p : Point) (points : List Point) : Type 0 where
    pub times : TimesRise (p ∷ points)
    pub values : ValuesRise (p ∷ points)

  -- one point more in front, unless its time is that of the point before
  with_next : (x y b : ℚ) (sides : Sides) (rest : List Sides) → x ≤ℚ X b → y ≤ℚ A b → AreSides entry exit amount.curve exits.curve b sides
      → ((z : ℚ) → z ≤ℚ A b → Climbs (X b, z) (next_from (X b) rest)) → Climbs (x, y) (next_from x (sides ∷ rest))
  with_next x y b sides rest h k s later = ⊎_elim
      (λ (t : (is_same x sides.right ≡ true) × (x ≡ sides.right)).
      let same : x ≡ X b = t.1 ∙ s.right_is in
      subst (λ (c : Bool). Climbs (x, y) (elim c [
        | true ↦ next_from x rest
        | false ↦ (sides.right, sides.left) ∷ next_from sides.right rest
      ])) (sym t.0)
      (subst (λ (z : ℚ). Climbs (z, y) (next_from z rest)) (sym same) (later y k)))
      (λ (t : (is_same x sides.right ≡ false) × (x ≡ sides.right → ⊥)).
      let less : x <ℚ X b = strictly x (X b) h (λ e. t.1 (e ∙ sym s.right_is)) in
      let w = later (A b) (≤ℚ_refl (A b)) in
      subst (λ (c : Bool). Climbs (x, y) (elim c [
        | true ↦ next_from x rest
        | false ↦ (sides.right, sides.left) ∷ next_from sides.right rest
      ])) (sym t.0)
      (subst (λ (z : ℚ). Climbs (x, y) ((z, sides.left) ∷ next_from z rest)) (sym s.right_is)
      (subst (λ (z : ℚ). Climbs (x, y) ((X b, z) ∷ next_from (X b) rest)) (sym s.left_is)
      (record { times = (less, w.times); values = (k, w.values) }))))
      (is_same_cases x sides.right)

  -- from a time on
  climbs_from : (a y : ℚ) (later : List ℚ) (sides : List Sides) → 0ℚ ≤ℚ a → y ≤ℚ A a → NextOnes (both_times entry exit) a later → each (sides_at passes entry exit) later ≡ Ok sides
      → Climbs (X a, y) (next_from (X a) sides)
  climbs_from a y [] sides h k n e = subst (λ (l : List Sides). Climbs (X a, y) (next_from (X a) l)) (same_Ok _ _ e) (record { times = tt; values = tt })
  climbs_from a y (b ∷ later) sides h k n e =
      let s = then_ok (sides_at passes entry exit b) _ sides e in
      let r = then_ok (each (sides_at passes entry exit) later) _ sides s.next in
      let before : a ≤ℚ b = ≤ℚ_of_lt _ _ n.0.order in
      let b_nn : 0ℚ ≤ℚ b = ≤ℚ_trans _ _ _ h before in
      subst (λ (l : List Sides). Climbs (X a, y) (next_from (X a) l)) (same_Ok _ _ r.next)
      (with_next (X a) y b s.between r.between (exits.rises a b h before) (≤ℚ_trans _ _ _ k (amount.rises a b h before))
      (sides_at-is entry exit amount.curve exits.curve passes b s.between b_nn s.first)
      (λ z i. climbs_from b z later r.between b_nn i n.1 r.first))

  -- the points from time 0 on
  all_climb : (sides : List Sides) → each (sides_at passes entry exit) (both_times entry exit) ≡ Ok sides → Climbs (0ℚ, 0ℚ) (next_from 0ℚ sides)
  all_climb sides e =
      let t = both_times-next entry exit amount.curve exits.curve in
      let e' : each (sides_at passes entry exit) (0ℚ ∷ t.later) ≡ Ok sides = ap (λ (l : List ℚ). each (sides_at passes entry exit) l) (sym t.begins) ∙ e in
      let a = then_ok (sides_at passes entry exit 0ℚ) _ sides e' in
      let b = then_ok (each (sides_at passes entry exit) t.later) _ sides a.next in
      let none : 0ℚ ≤ℚ A 0ℚ = subst (λ (x : ℚ). 0ℚ ≤ℚ x) (sym amount.begins) (≤ℚ_refl 0ℚ) in
      subst (λ (l : List Sides). Climbs (0ℚ, 0ℚ) (next_from 0ℚ l)) (same_Ok _ _ b.next)
      (with_next 0ℚ 0ℚ 0ℚ a.between b.between exits.first none (sides_at-is entry exit amount.curve exits.curve passes 0ℚ a.between (≤ℚ_refl 0ℚ) a.first)
      (λ z i. climbs_from 0ℚ z t.later b.between (≤ℚ_refl 0ℚ) i t.next b.first))

  pub points_curve : (sides : List Sides) → each (sides_at passes entry exit) (both_times entry exit) ≡ Ok sides → IsCurve ((0ℚ, 0ℚ) ∷ next_from 0ℚ sides)
  points_curve sides e = (refl, (all_climb sides e).times)

  points_amount : (sides : List Sides) → each (sides_at passes entry exit) (both_times entry exit) ≡ Ok sides → IsAmountCurve ((0ℚ, 0ℚ) ∷ next_from 0ℚ sides)
  points_amount sides e = record {
    curve = points_curve sides e;
    begins = value-first (0ℚ, 0ℚ) (next_from 0ℚ sides) (all_climb sides e).times;
    rises = NeverFalls-value ((0ℚ, 0ℚ) ∷ next_from 0ℚ sides) (points_curve sides e) (all_climb sides e).values;
  }

  pub next_amount : (next : List Point) → next_entry passes exit entry ≡ Ok next → IsAmountCurve next
  unfolding next_entry
  next_amount next e =
      let s = then_ok (each (sides_at passes entry exit) (both_times entry exit)) _ next e in
      let a = points_amount s.between s.first in
      short_amount ((0ℚ, 0ℚ) ∷ next_from 0ℚ s.between) next a (checked_short-is passes ((0ℚ, 0ℚ) ∷ next_from 0ℚ s.between) next a.curve s.next)

  -- ---- the list, step by step
  pub sides_stop : (p : PassedAt ℚ) → at_part Load (each (sides_at passes entry exit) (both_times entry exit)) ≡ Err p → at_part Load (next_entry passes exit entry) ≡ Err p
  unfolding next_entry
  sides_stop p e = after_err Load (each (sides_at passes entry exit) (both_times entry exit)) (λ sides. checked_short passes ((0ℚ, 0ℚ) ∷ next_from 0ℚ sides)) p e

  pub sides_go : (sides : List Sides) → at_part Load (each (sides_at passes entry exit) (both_times entry exit)) ≡ Ok sides
      → at_part Load (next_entry passes exit entry) ≡ at_part Load (checked_short passes ((0ℚ, 0ℚ) ∷ next_from 0ℚ sides))
  unfolding next_entry
  sides_go sides e = after_ok Load (each (sides_at passes entry exit) (both_times entry exit)) (λ sides. checked_short passes ((0ℚ, 0ℚ) ∷ next_from 0ℚ sides)) sides e

-- what holds of a list's value holds of what a call gives by it
pub gives_ok : {X A : Type 0} (value : X → A) (result : Result X (Halt ℚ)) (said : Checked A) (P : A → Type 0)
    → Gives value (λ (q : ℚ). q) result (at_part Load said) → ((y : A) → said ≡ Ok y → P y) → IfOk result (λ x. P (value x))
gives_ok value (Ok x) said P g f = f (value x) (was_ok Load said (value x) g)
gives_ok value (Err h) said P g f = tt
