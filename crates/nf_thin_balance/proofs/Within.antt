-- Numbers in ranges: sums, differences, and the scaled flow of a link in its state.
use Rattle.std.proofs.Common.{◌≡◌, ℕ, Bool, true, false, [], ◌∷◌, sym, ap, subst, ◌∙◌, arith, if◌then◌else◌, Option, Some, None, Ok, Err, IfSome}
use Rattle.nf_thin_balance.proofs.Common.{none-some, same_Some, ℚ, 0ℚ, whole, ◌+ℚ◌, ◌-ℚ◌, ◌*ℚ◌, ring, reading, reading_of, le, linear_le, linear_eq}
use Rattle.nf_thin_balance.proofs.Common.{≤ℚ_of_same, less_nn, nn_in, nn_out, nn_times, nn_whole, shifted_le, Passing, result_of, State, Fills, Equation}
use Rattle.nf_thin_balance.proofs.Common.{Inequality, Range, IsAtLeastEnd, IsUpTo, IsInRange, IsEndOfSum, IsEndOfDifference, MeetsState, scaled}
use Rattle.std.specs.Result.{result_ok}
use lib.IntN.{ℤ, pos, ◌+ℤ◌, ◌-ℤ◌, ◌*ℤ◌, neg_ℤ}
use lib.Signed.{◌≤ℤ◌}
use borrow.Author.Differences.{ints}
use Rattle.nf_rational.specs.Order.{◌≤ℚ◌}
use Rattle.nf_rational_laws.proofs.IntegerRing.{ints_ring}
use Rattle.nf_rational_laws.proofs.Ratio.{Is-self, Is-same, Is-times, Is-less, Is-whole}
use Rattle.nf_rational_laws.proofs.Field.{whole-plus}
use Rattle.nf_rational_laws.proofs.Chains.{≤ℚ_trans}
use Rattle.nf_rational_laws.proofs.Facts.{le_of_gap}
use Rattle.nf_frac_def.specs.declared.Op.{Op}
use Rattle.nf_frac_def.specs.declared.Passed.{Passed}
use Rattle.nf_frac_def.specs.Checked.{checked}
use Rattle.nf_model.specs.declared.State.TheVariants.{Tight, Full, Zero}

-- ---- whole numbers
whole-less : (a b : ℤ) → whole (a -ℤ b) ≡ whole a -ℚ whole b
whole-less a b = Is-same _ _ _ _ (Is-whole (a -ℤ b)) (Is-less a (pos 1) b (pos 1) (Is-whole a) (Is-whole b)) (ring ints_ring (a ∷ b ∷ []) (search reading depth 30) tt)

no_gap : (a b : ℤ) → pos 0 ≤ℤ (b -ℤ a) → a ≤ℤ b
no_gap a b h = omega (arith, ints)

-- Whole numbers around one number are in order.
pub around : (a b : ℤ) (x : ℚ) → whole a ≤ℚ x → x ≤ℚ whole b → a ≤ℤ b
around a b x h k = no_gap a b (subst (λ (z : ℤ). pos 0 ≤ℤ z) (less_is a b)
    (nn_out _ _ (Is-less b (pos 1) a (pos 1) (Is-whole b) (Is-whole a)) (less_nn (whole a) (whole b) (≤ℚ_trans (whole a) x (whole b) h k))))
  where
    less_is : (a b : ℤ) → b *ℤ pos 1 +ℤ neg_ℤ a *ℤ pos 1 ≡ b -ℤ a
    less_is a b = ring ints_ring (a ∷ b ∷ []) (search reading depth 30) tt

-- ---- a number times the scale
module _ (scale : ℕ) (number : ℚ) where
  pub scaled_from : (end : ℤ) → (end *ℤ pos number.den) ≤ℤ (number.num *ℤ pos scale) → whole end ≤ℚ scaled scale number
  scaled_from end h = le_of_gap (whole end) (scaled scale number) (nn_in _ _
      (Is-less _ _ _ _ (Is-times (pos scale) (pos 1) number.num (pos number.den) (Is-whole (pos scale)) (Is-self number)) (Is-whole end))
      (subst (λ (z : ℤ). pos 0 ≤ℤ z) (same (pos scale) number.num (pos number.den) end) (shifted_le _ _ h)))
    where
      same : (s n d e : ℤ) → n *ℤ s -ℤ e *ℤ d ≡ (s *ℤ n) *ℤ pos 1 +ℤ neg_ℤ e *ℤ (pos 1 *ℤ d)
      same s n d e = ring ints_ring (s ∷ n ∷ d ∷ e ∷ []) (search reading depth 30) tt

  pub scaled_up_to : (end : ℤ) → (number.num *ℤ pos scale) ≤ℤ (end *ℤ pos number.den) → scaled scale number ≤ℚ whole end
  scaled_up_to end h = le_of_gap (scaled scale number) (whole end) (nn_in _ _
      (Is-less _ _ _ _ (Is-whole end) (Is-times (pos scale) (pos 1) number.num (pos number.den) (Is-whole (pos scale)) (Is-self number)))
      (subst (λ (z : ℤ). pos 0 ≤ℤ z) (same (pos scale) number.num (pos number.den) end) (shifted_le _ _ h)))
    where
      same : (s n d e : ℤ) → e *ℤ d -ℤ n *ℤ s ≡ e *ℤ (pos 1 *ℤ d) +ℤ neg_ℤ (s *ℤ n) *ℤ pos 1
      same s n d e = ring ints_ring (s ∷ n ∷ d ∷ e ∷ []) (search reading depth 30) tt

  pub scaled_within : (least greatest : Option ℤ) → IfSome least (λ (l : ℤ). (l *ℤ pos number.den) ≤ℤ (number.num *ℤ pos scale))
      → IfSome greatest (λ (g : ℤ). (number.num *ℤ pos scale) ≤ℤ (g *ℤ pos number.den)) → IsInRange (record { least = least; greatest = greatest }) (scaled scale number)
  scaled_within least greatest below above = record {
    from = λ end at. scaled_from end (subst (λ (o : Option ℤ). IfSome o (λ (l : ℤ). (l *ℤ pos number.den) ≤ℤ (number.num *ℤ pos scale))) at below);
    up_to = λ end at. scaled_up_to end (subst (λ (o : Option ℤ). IfSome o (λ (g : ℤ). (number.num *ℤ pos scale) ≤ℤ (g *ℤ pos number.den))) at above);
  }

-- The greater number has the greater multiple.
le_scaled : (scale : ℕ) (x y : ℚ) → x ≤ℚ y → scaled scale x ≤ℚ scaled scale y
le_scaled scale x y h = le_of_gap (scaled scale x) (scaled scale y) (subst (λ (z : ℚ). 0ℚ ≤ℚ z) (apart (whole (pos scale)) x y)
    (nn_times (whole (pos scale)) (y -ℚ x) (nn_whole scale) (less_nn x y h)))
  where
    apart : (s x y : ℚ) → s *ℚ (y -ℚ x) ≡ s *ℚ y -ℚ s *ℚ x
    apart s x y = linear_eq (s ∷ x ∷ y ∷ []) [] (search reading_of depth 12) tt tt

scaled_none : (scale : ℕ) (x : ℚ) → x ≡ 0ℚ → scaled scale x ≡ 0ℚ
scaled_none scale x none = ap (λ (z : ℚ). whole (pos scale) *ℚ z) none ∙ nil (whole (pos scale))
  where
    nil : (s : ℚ) → s *ℚ 0ℚ ≡ 0ℚ
    nil s = linear_eq (s ∷ []) [] (search reading_of depth 12) tt tt

-- ---- ends that are known
le_sum : (a b x y : ℚ) → a ≤ℚ x → b ≤ℚ y → (a +ℚ b) ≤ℚ (x +ℚ y)
le_sum a b x y h k = linear_le (a ∷ b ∷ x ∷ y ∷ []) (le h ∷ le k ∷ []) (search reading_of depth 12) tt

le_difference : (a b x y : ℚ) → a ≤ℚ x → y ≤ℚ b → (a -ℚ b) ≤ℚ (x -ℚ y)
le_difference a b x y h k = linear_le (a ∷ b ∷ x ∷ y ∷ []) (le h ∷ le k ∷ []) (search reading_of depth 12) tt

pub from_sum : (one other sum : Option ℤ) (x y : ℚ) → IsEndOfSum one other sum → IsAtLeastEnd one x → IsAtLeastEnd other y → IsAtLeastEnd sum (x +ℚ y)
from_sum one other sum x y is h k end at = let s = is end at in
    subst (λ (z : ℚ). z ≤ℚ (x +ℚ y)) (sym (ap whole s.4 ∙ whole-plus s.0 s.1)) (le_sum (whole s.0) (whole s.1) x y (h s.0 s.2) (k s.1 s.3))

pub up_to_sum : (one other sum : Option ℤ) (x y : ℚ) → IsEndOfSum one other sum → IsUpTo one x → IsUpTo other y → IsUpTo sum (x +ℚ y)
up_to_sum one other sum x y is h k end at = let s = is end at in
    subst (λ (z : ℚ). (x +ℚ y) ≤ℚ z) (sym (ap whole s.4 ∙ whole-plus s.0 s.1)) (le_sum x y (whole s.0) (whole s.1) (h s.0 s.2) (k s.1 s.3))

pub from_difference : (one other difference : Option ℤ) (x y : ℚ) → IsEndOfDifference one other difference → IsAtLeastEnd one x → IsUpTo other y → IsAtLeastEnd difference (x -ℚ y)
from_difference one other difference x y is h k end at = let s = is end at in
    subst (λ (z : ℚ). z ≤ℚ (x -ℚ y)) (sym (ap whole s.4 ∙ whole-less s.0 s.1)) (le_difference (whole s.0) (whole s.1) x y (h s.0 s.2) (k s.1 s.3))

pub up_to_difference : (one other difference : Option ℤ) (x y : ℚ) → IsEndOfDifference one other difference → IsUpTo one x → IsAtLeastEnd other y → IsUpTo difference (x -ℚ y)
up_to_difference one other difference x y is h k end at = let s = is end at in
    subst (λ (z : ℚ). (x -ℚ y) ≤ℚ z) (sym (ap whole s.4 ∙ whole-less s.0 s.1)) (le_difference x y (whole s.0) (whole s.1) (h s.0 s.2) (k s.1 s.3))

-- A known end of 0.
pub from_zero : (x : ℚ) → 0ℚ ≤ℚ x → IsAtLeastEnd (Some (pos 0)) x
from_zero x h end at = subst (λ (z : ℤ). whole z ≤ℚ x) (same_Some (pos 0) end at) h

pub up_to_zero : (x : ℚ) → x ≤ℚ 0ℚ → IsUpTo (Some (pos 0)) x
up_to_zero x h end at = subst (λ (z : ℤ). x ≤ℚ whole z) (same_Some (pos 0) end at) h

pub within_zero : (range : Range) (x : ℚ) → range.least ≡ Some (pos 0) → range.greatest ≡ Some (pos 0) → x ≡ 0ℚ → IsInRange range x
within_zero range x least greatest none = record {
  from = subst (λ (o : Option ℤ). IsAtLeastEnd o x) (sym least) (from_zero x (≤ℚ_of_same 0ℚ x (sym none)));
  up_to = subst (λ (o : Option ℤ). IsUpTo o x) (sym greatest) (up_to_zero x (≤ℚ_of_same x 0ℚ none));
}

-- A sum that does not pass.
kept_sum : (b : Bool) (p : Passed ℚ) (value end : ℚ) → result_ok (if b then Err p else Ok value) ≡ Some end → end ≡ value
kept_sum true p value end e = absurd (none-some end e)
kept_sum false p value end e = sym (same_Some value end e)

pub checked_is : (passes : Passing) (op : Op) (x y end : ℚ) → result_ok (checked passes op x y) ≡ Some end → end ≡ result_of op x y
unfolding checked
checked_is passes op x y end e = kept_sum (passes op x y) _ (result_of op x y) end e

-- ---- the flow of a link in its state
module _ (scale : ℕ) (state : Option State) (resetting : Bool) (full : Range) (capacity : Option ℚ) (flow tail_slope head_slope : ℚ)
    (m : MeetsState scale state resetting full capacity flow tail_slope head_slope) where
  abbrev equation_of : Option State → Bool → Type 0
  equation_of s b = Equation s b capacity flow tail_slope head_slope

  equation_now : (s : Option State) → state ≡ s → equation_of s resetting
  equation_now s is = subst (λ (o : Option State). equation_of o resetting) is m.equation

  -- The flow that fills the link is the only one.
  same_fills : (most : ℚ) → Fills capacity flow head_slope → Fills capacity most head_slope → flow ≡ most
  same_fills most now k = now.2 ∙ (ap (λ (rate : ℚ). rate *ℚ head_slope) (same_Some now.0 k.0 (sym now.1 ∙ k.1)) ∙ sym k.2)

  within_full : Fills capacity flow head_slope → IsInRange full (scaled scale flow)
  within_full now = record {
    from = λ end at. (let k = m.fills.from end at in subst (λ (z : ℚ). whole end ≤ℚ scaled scale z) (sym (same_fills k.0 now k.1)) k.2);
    up_to = λ end at. (let k = m.fills.up_to end at in subst (λ (z : ℚ). scaled scale z ≤ℚ whole end) (sym (same_fills k.0 now k.1)) k.2);
  }

  pub tight_up_to : state ≡ Some Tight → IsUpTo full.greatest (scaled scale flow)
  tight_up_to is end at = let k = m.fills.up_to end at in
      ≤ℚ_trans (scaled scale flow) (scaled scale k.0) (whole end) (le_scaled scale flow k.0
      (subst (λ (z : ℚ). flow ≤ℚ z) (sym k.1.2) (subst (λ (o : Option State). Inequality o capacity flow tail_slope head_slope) is m.inequality k.1.0 k.1.1))) k.2

  pub from_none : 0ℚ ≤ℚ scaled scale flow
  from_none = nn_times (whole (pos scale)) flow (nn_whole scale) m.no_negative

  pub full_within : state ≡ Some Full → IsInRange full (scaled scale flow)
  full_within is = within_full (equation_now (Some Full) is)

  pub zero_flow : state ≡ Some Zero → scaled scale flow ≡ 0ℚ
  zero_flow is = scaled_none scale flow (equation_now (Some Zero) is)

  pub resetting_within : state ≡ None → resetting ≡ true → IsInRange full (scaled scale flow)
  resetting_within is on = within_full (subst (λ (b : Bool). equation_of None b) on (equation_now None is))

  pub idle_flow : state ≡ None → resetting ≡ false → scaled scale flow ≡ 0ℚ
  idle_flow is off = scaled_none scale flow (subst (λ (b : Bool). equation_of None b) off (equation_now None is))
