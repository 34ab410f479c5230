-- Parsing the printed form of a number.
use Rattle.std.proofs.Common.{◌≡◌, ℕ, suc, ◌+◌, ◌<◌, ◌≤◌, true, false, List, [], ◌∷◌, ◌++◌, length, ℤ, pos, negsuc, refl, sym, ap, ◌∙◌, inl, inr, arith}
use Rattle.std.specs.Prelude.{nat_abs, neg_ℤ, Ok, Result}
use Rattle.std.specs.Str.Parse.{starts_with_minus}
use Rattle.std.proofs.lemmas.Bool.{and_parts, and_left, and_right, or_from, eq-eqb, ne_eqb, not_from_true, cond-true, cond-false, cases_eq}
use Rattle.nf_rational.specs.Rational.{ℚ}
use Rattle.nf_rational.proofs.Lowest.{parts_ratio}
use Rattle.nf_frac_words.specs.declared.NumberFault.{NumberFault}
use Rattle.nf_frac_words.specs.Digits.{are_digits, value_of, digits_of}
use Rattle.nf_frac_words.specs.Numbers.{slash, point, has, before, unsigned, signed_by, denominator, parts_of, decimal_parts_of, as_ratio, number_of, decimal_of}
use Rattle.nf_frac_words.specs.Printed.{signed_digits_of, printed_parts, printed}
use Rattle.nf_frac_words.proofs.Digits.{are_digits-digits_of, value_of-digits_of, some_digits}
use Rattle.nf_frac_words.proofs.Faults.{parts_read}
use Rattle.nf_frac_words.proofs.Fields.{has-append, before_none, before_at, after_at, none_in_digits, no_digit}

-- ---- a whole number's digits and sign
no_minus : (field : List ℕ) → are_digits field ≡ true → starts_with_minus field ≡ false
no_minus [] e = refl
no_minus (c ∷ rest) e = no_digit 45 c (omega arith) (and_parts _ _ e).0

pub unsigned_digits : (n : ℕ) → unsigned (digits_of n) ≡ digits_of n
unsigned_digits n = cond-false _ _ _ (no_minus (digits_of n) (are_digits-digits_of n))

-- its digits, without the sign
abbrev pub magnitude_of : ℤ → List ℕ
magnitude_of (pos n) = digits_of n
magnitude_of (negsuc n) = digits_of (suc n)

unsigned_is : (n : ℤ) → unsigned (signed_digits_of n) ≡ magnitude_of n
unsigned_is (pos n) = unsigned_digits n
unsigned_is (negsuc n) = refl

signed_is : (n : ℤ) → signed_by (signed_digits_of n) (value_of (magnitude_of n)) ≡ n
signed_is (pos n) = cond-false _ _ _ (no_minus (digits_of n) (are_digits-digits_of n)) ∙ ap pos (value_of-digits_of n)
signed_is (negsuc n) = ap (λ (m : ℕ). neg_ℤ (pos m)) (value_of-digits_of (suc n))

some_magnitude : (n : ℤ) → 0 < length (magnitude_of n)
some_magnitude (pos n) = some_digits n
some_magnitude (negsuc n) = some_digits (suc n)

digits_magnitude : (n : ℤ) → are_digits (magnitude_of n) ≡ true
digits_magnitude (pos n) = are_digits-digits_of n
digits_magnitude (negsuc n) = are_digits-digits_of (suc n)

no_separator : (b : ℕ) (n : ℤ) → 45 < b → b < 48 → has b (signed_digits_of n) ≡ false
no_separator b (pos n) p q = none_in_digits b (digits_of n) q (are_digits-digits_of n)
no_separator b (negsuc n) p q = or_from _ _ (ne_eqb 45 b (λ e. omega arith)) (none_in_digits b (digits_of (suc n)) q (are_digits-digits_of (suc n)))

-- ---- the parts of a printed form
whole_read : (bound : ℕ) (n : ℤ) → nat_abs n ≤ bound → 1 ≤ bound → parts_of bound (signed_digits_of n) ≡ Ok (n, 1)
unfolding parts_of
whole_read bound n fits some =
    let none : has slash (signed_digits_of n) ≡ false = no_separator slash n (omega arith) (omega arith) in
    let front : before slash (signed_digits_of n) ≡ signed_digits_of n = before_none slash (signed_digits_of n) none in
    let back : denominator (signed_digits_of n) ≡ 49 ∷ [] = cond-false _ _ _ none in
    rw (front, back, unsigned_is, signed_is) (parts_read bound (magnitude_of n) (49 ∷ []) n 1
    (record { some_left = some_magnitude n; some_right = omega arith; left = digits_magnitude n; right = refl }) fits some (omega arith))

ratio_read : (bound : ℕ) (n : ℤ) (d : ℕ) → nat_abs n ≤ bound → d ≤ bound → 0 < d → parts_of bound (signed_digits_of n ++ slash ∷ digits_of d) ≡ Ok (n, d)
unfolding parts_of
ratio_read bound n d fits_n fits_d some =
    let none : has slash (signed_digits_of n) ≡ false = no_separator slash n (omega arith) (omega arith) in
    let front : before slash (signed_digits_of n ++ slash ∷ digits_of d) ≡ signed_digits_of n = before_at slash (signed_digits_of n) (digits_of d) none in
    let back : denominator (signed_digits_of n ++ slash ∷ digits_of d) ≡ digits_of d =
    cond-true _ _ _ (has-append slash (signed_digits_of n) (digits_of d) none) ∙ after_at slash (signed_digits_of n) (digits_of d) none in
    rw (front, back, unsigned_is, signed_is, value_of-digits_of) (parts_read bound (magnitude_of n) (digits_of d) n d
    (record { some_left = some_magnitude n; some_right = some_digits d; left = digits_magnitude n; right = are_digits-digits_of d }) fits_n fits_d some)

pub printed_read : (bound : ℕ) (n : ℤ) (d : ℕ) → nat_abs n ≤ bound → d ≤ bound → 0 < d → parts_of bound (printed_parts n d) ≡ Ok (n, d)
unfolding printed_parts
printed_read bound n d fits_n fits_d some = elim (cases_eq d 1) [
  | inl one ↦ ap (parts_of bound) (cond-true _ _ _ (eq-eqb d 1 one)) ∙ whole_read bound n fits_n (omega arith) ∙ ap (λ (m : ℕ). Ok (n, m)) (sym one)
  | inr more ↦ ap (parts_of bound) (cond-false _ _ _ (ne_eqb d 1 more)) ∙ ratio_read bound n d fits_n fits_d some
]

-- the same with decimals allowed: a printed form has no point, or has a slash
decimal_read : (bound : ℕ) (n : ℤ) (d : ℕ) → decimal_parts_of bound (printed_parts n d) ≡ parts_of bound (printed_parts n d)
unfolding decimal_parts_of printed_parts
decimal_read bound n d = elim (cases_eq d 1) [
  | inl one ↦ rw (eq-eqb d 1 one) (cond-false _ _ _ (and_left _ _ (no_separator point n (omega arith) (omega arith))))
  | inr more ↦ rw (ne_eqb d 1 more) (cond-false _ _ _ (and_right _ _ (not_from_true _
      (has-append slash (signed_digits_of n) (digits_of d) (no_separator slash n (omega arith) (omega arith))))))
]

pub number_read : (bound : ℕ) (q : ℚ) → nat_abs q.num ≤ bound → q.den ≤ bound → number_of bound (printed q) ≡ Ok q
unfolding number_of printed
number_read bound q fits_num fits_den = ap as_ratio (printed_read bound q.num q.den fits_num fits_den q.positive) ∙ ap Ok (parts_ratio q)

pub number_read_as_decimal : (bound : ℕ) (q : ℚ) → nat_abs q.num ≤ bound → q.den ≤ bound → decimal_of bound (printed q) ≡ Ok q
unfolding decimal_of printed
number_read_as_decimal bound q fits_num fits_den = ap as_ratio (decimal_read bound q.num q.den ∙ printed_read bound q.num q.den fits_num fits_den q.positive) ∙ ap Ok (parts_ratio q)

pub printed_injective : (p q : ℚ) → printed p ≡ printed q → p ≡ q
printed_injective p q e =
    let bound = nat_abs p.num + p.den + nat_abs q.num + q.den in
    let reads_p : number_of bound (printed p) ≡ Ok p = number_read bound p (omega arith) (omega arith) in
    let reads_q : number_of bound (printed q) ≡ Ok q = number_read bound q (omega arith) (omega arith) in
    let same : ◌≡◌ {A = Result ℚ NumberFault} (Ok p) (Ok q) = sym reads_p ∙ ap (number_of bound) e ∙ reads_q in cc
