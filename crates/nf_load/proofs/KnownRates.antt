-- The rate of a piece is the slope of the amount that it supplies, and no operation of this slope passes.
use Rattle.std.proofs.Common.{◌≡◌, ◌≢◌, ℕ, ◌*◌, ◌≤◌, Bool, true, false, cond, [], ◌∷◌, ℤ, pos, ◌+ℤ◌, ◌*ℤ◌, nat_abs, refl, sym, ap, subst, ◌∙◌, arith, Ok}
use Rattle.std.proofs.Common.{Err}
use Rattle.nf_load.proofs.Common.{ℚ, 0ℚ, 1ℚ, ◌+ℚ◌, ◌*ℚ◌, neg_ℚ, inv_ℚ, ◌<ℚ◌, reading_of, combine, using, done, reading, ints_ring, abs-mul, +ℚ_idl, zero-*ℚ}
use Rattle.nf_load.proofs.Common.{eq, linear_eq, /ℚ_is, /ℚ-unique, zero_num, zero_den, bound_of, passes_Q, is_wide, ◌>>=◌, Sum, Difference, Product}
use Rattle.nf_load.proofs.Common.{Quotient, Piece, then_ok, checked-is, run_apart, with_piece, IsWithin, SumFits}
use Rattle.nf_rational.specs.Gcd.{gcd}
use Rattle.nf_rational.specs.Rational.{ratio}
use Rattle.nf_rational.specs.Operations.{whole, ◌-ℚ◌}
use Rattle.nf_frac_def.specs.Passing.{beyond}
use Rattle.nf_frac_def.specs.Checked.{checked}
use Rattle.nf_curve_def.specs.Lines.{checked_slope}
use Rattle.nf_frac.specs.Narrow.{narrow_out}
use Rattle.nf_frac.proofs.Passing.{sum_out, sum_done, difference_done, quotient_done}
use Rattle.nf_load.proofs.TakenOff.{times_one, fits_over, taken_off}

-- ---- one operation
not_passed : {V E : Type 0} (t : Bool) (e : E) (v s : V) → cond t (Err e) (Ok v) ≡ Ok s → t ≡ false
not_passed true e v s h = absurd (cc)
not_passed false e v s h = refl

fitted : (x y s : ℚ) → checked passes_Q Sum x y ≡ Ok s → SumFits (bound_of 127) x y
unfolding checked beyond
fitted x y s e = sum_out (bound_of 127) x y (not_passed (passes_Q Sum x y) _ _ s e)

second_part : (x y s : ℚ) → s ≡ x +ℚ y → y ≡ s -ℚ x
second_part x y s e = linear_eq (x ∷ y ∷ s ∷ []) (eq e ∷ []) (search reading_of depth 12) tt tt

as_sum : (x y s : ℚ) → s ≡ x +ℚ y → y ≡ s +ℚ neg_ℚ x
unfolding ◌-ℚ◌
as_sum x y s e = second_part x y s e

-- the sum less its first part
difference_again : (x y s : ℚ) → checked passes_Q Sum x y ≡ Ok s → checked passes_Q Difference s x ≡ Ok y
difference_again x y s e =
    let is : s ≡ x +ℚ y = checked-is passes_Q Sum x y s e in
    let fits : SumFits (bound_of 127) s (neg_ℚ x) = subst (λ (q : ℚ). SumFits (bound_of 127) q (neg_ℚ x)) (sym is) (taken_off (bound_of 127) x y (fitted x y s e)) in
    sym (difference_done (bound_of 127) s x y (fits, as_sum x y s is))

-- a product over its second part
pub quotient_known : (rate length amount : ℚ) → is_wide (bound_of 127) rate ≡ false → length ≢ 0ℚ → amount ≡ rate *ℚ length → checked passes_Q Quotient amount length ≡ Ok rate
quotient_known rate length amount narrow apart e =
    let is : rate ≡ amount *ℚ inv_ℚ length = /ℚ-unique amount length rate apart (sym e) ∙ /ℚ_is amount length in
    sym (quotient_done (bound_of 127) amount length rate
    (subst (λ (q : ℚ). IsWithin (bound_of 127) q) is (narrow_out (bound_of 127) rate narrow), is))

quotient_again : (rate length amount : ℚ) → is_wide (bound_of 127) rate ≡ false → length ≢ 0ℚ → checked passes_Q Product rate length ≡ Ok amount
    → checked passes_Q Quotient amount length ≡ Ok rate
quotient_again rate length amount narrow apart e = quotient_known rate length amount narrow apart (checked-is passes_Q Product rate length amount e)

-- ---- the slope of a line
pub line_slope : (start before end after rate length rise : ℚ) → is_wide (bound_of 127) rate ≡ false → start <ℚ end → checked passes_Q Difference end start ≡ Ok length
    → checked passes_Q Product rate length ≡ Ok rise → checked passes_Q Sum before rise ≡ Ok after → checked_slope passes_Q (start, before) (end, after) ≡ Ok rate
unfolding checked_slope
line_slope start before end after rate length rise narrow later l p s =
    ap (λ r. r >>= λ rise. checked passes_Q Difference end start >>= λ run. checked passes_Q Quotient rise run) (difference_again before rise after s)
    ∙ ap (λ r. r >>= λ run. checked passes_Q Quotient rise run) l
    ∙ quotient_again rate length rise narrow (run_apart passes_Q start end length later l) p

-- ---- the slope of a piece
pub piece_slope : (so_far : ℚ) (piece : Piece) (end sum : ℚ) → is_wide (bound_of 127) piece.rate ≡ false → piece.start <ℚ end
    → with_piece passes_Q so_far piece end ≡ Ok sum → checked_slope passes_Q (piece.start, so_far) (end, sum) ≡ Ok piece.rate
piece_slope so_far piece end sum narrow later e =
    let d = then_ok (checked passes_Q Difference end piece.start) _ sum e in
    let p = then_ok (checked passes_Q Product piece.rate d.between) _ sum d.next in
    line_slope piece.start so_far end sum piece.rate d.between p.between narrow later d.first p.first p.next

-- ---- the slope before the first piece, where nothing is supplied
only_second : (m n d : ℤ) → m ≡ pos 0 → m *ℤ d +ℤ n *ℤ pos 1 ≡ n
only_second m n d e = combine ints_ring (m ∷ n ∷ d ∷ []) (using d e (search reading depth 30) done) (search reading depth 30) tt

module _ (limit : ℕ) (time : ℚ) (within : IsWithin limit time) where
  den_is : 0ℚ.den * time.den ≡ time.den
  den_is = ap (λ (k : ℕ). k * time.den) zero_den ∙ once time.den
    where
      once : (k : ℕ) → 1 * k ≡ k
      once k = omega arith

  none : nat_abs (0ℚ.num *ℤ pos time.den) ≤ limit
  none = subst (λ (m : ℕ). m ≤ limit) (sym (abs-mul 0ℚ.num time.den ∙ ap (λ (z : ℤ). nat_abs z * time.den) zero_num ∙ nothing time.den)) (least limit)
    where
      nothing : (k : ℕ) → 0 * k ≡ 0
      nothing k = omega arith

      least : (k : ℕ) → 0 ≤ k
      least k = omega arith

  zero_fits : SumFits limit 0ℚ time
  zero_fits = fits_over limit 0ℚ time time.den 1 time.positive (den_is ∙ sym (times_one time.den))
      (subst (λ (m : ℕ). m ≤ limit) (sym den_is) within.small_den) none
      (subst (λ (m : ℕ). m ≤ limit) (sym (abs-mul time.num 1 ∙ times_one (nat_abs time.num))) within.small)
      (subst (λ (z : ℤ). nat_abs z ≤ limit) (sym (only_second 0ℚ.num time.num (pos time.den) zero_num)) within.small)

pub one_narrow : is_wide (bound_of 127) 1ℚ ≡ false
unfolding whole ratio gcd
one_narrow = refl

pub zero_within : IsWithin (bound_of 127) 0ℚ
zero_within = record {
  small = subst (λ (z : ℤ). nat_abs z ≤ bound_of 127) (sym zero_num) (omega arith);
  small_den = subst (λ (k : ℕ). k ≤ bound_of 127) (sym zero_den) (omega arith);
}

pub less_zero : (time : ℚ) → IsWithin (bound_of 127) time → checked passes_Q Difference time 0ℚ ≡ Ok time
less_zero time within = difference_again 0ℚ time time (sym (sum_done (bound_of 127) 0ℚ time time (zero_fits (bound_of 127) time within, sym (+ℚ_idl time))))

pub zero_over : (time : ℚ) → checked passes_Q Quotient 0ℚ time ≡ Ok 0ℚ
zero_over time =
    let is : 0ℚ ≡ 0ℚ *ℚ inv_ℚ time = sym (zero-*ℚ (inv_ℚ time)) in
    sym (quotient_done (bound_of 127) 0ℚ time 0ℚ (subst (λ (q : ℚ). IsWithin (bound_of 127) q) is zero_within, is))

level_slope : (time : ℚ) → IsWithin (bound_of 127) time → checked_slope passes_Q (0ℚ, 0ℚ) (time, 0ℚ) ≡ Ok 0ℚ
unfolding checked_slope
level_slope time within =
    ap (λ r. r >>= λ rise. checked passes_Q Difference time 0ℚ >>= λ run. checked passes_Q Quotient rise run) (less_zero 0ℚ zero_within)
    ∙ ap (λ r. r >>= λ run. checked passes_Q Quotient 0ℚ run) (less_zero time within)
    ∙ zero_over time

pub zero_slope : (time so_far rate : ℚ) → is_wide (bound_of 127) time ≡ false → so_far ≡ 0ℚ → rate ≡ 0ℚ → checked_slope passes_Q (0ℚ, 0ℚ) (time, so_far) ≡ Ok rate
zero_slope time so_far rate narrow none still =
    ap (λ (y : ℚ). checked_slope passes_Q (0ℚ, 0ℚ) (time, y)) none ∙ level_slope time (narrow_out (bound_of 127) time narrow) ∙ ap Ok (sym still)
