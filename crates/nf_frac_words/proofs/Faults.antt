-- The results of parsing two fields of digits, case by case.
use Rattle.std.proofs.Math.Nat.{one-le-pow}
use Rattle.std.proofs.Common.{subst, ◌≡◌, ℕ, zero, suc, ◌+◌, ◌*◌, ◌^◌, ◌<◌, ◌≤◌, Bool, true, false, not, ◌||◌, ◌&&◌, cond, List, length, ℤ, pos, refl, sym, ap, ◌∙◌, arith}
use Rattle.std.specs.Prelude.{◌==◌, nat_lt, nat_abs, neg_ℤ, Ok, Err, Result, IfOk, IfErr}
use Rattle.std.specs.Str.Parse.{starts_with_minus}
use Rattle.std.proofs.lemmas.Bool.{or_parts, eqb-false, ltb-false, and_from, or_from, ne_eqb, le-ltb, not_from_true, cond-true, cond-false}
use Rattle.nf_frac_words.specs.declared.NumberFault.{NumberFault}
use Rattle.nf_frac_words.specs.declared.NumberFault.TheVariants.{Empty, BadDigit, TooWide, ZeroDenominator}
use Rattle.nf_frac_words.specs.Digits.{are_digits, value_of}
use Rattle.nf_frac_words.specs.Numbers.{slash, point, before, bytes_after, unsigned, signed_by, denominator, is_decimal, parts_or_fault, parts_of, decimal_parts_of, as_ratio, number_of, decimal_of}
use Rattle.nf_rational.specs.Rational.{ratio}

pub not_zero : (n : ℕ) → 0 < n → (n == 0) ≡ false
not_zero n h = let ne : n ≡ 0 → ⊥ = λ e. omega arith in ne_eqb n 0 ne

-- ---- two fields of one or more digits
pub record AreFields (a b : List ℕ) : Type 0 where
  pub some_left : 0 < length a
  pub some_right : 0 < length b
  pub left : are_digits a ≡ true
  pub right : are_digits b ≡ true

module _ (bound : ℕ) (a b : List ℕ) (n : ℤ) (d : ℕ) (are : AreFields a b) where
  past_digits : parts_or_fault bound a b n d ≡ cond (nat_lt bound (nat_abs n) || nat_lt bound d) (Err TooWide) (cond (d == 0) (Err ZeroDenominator) (Ok (n, d)))
  past_digits =
      cond-false _ _ _ (or_from _ _ (not_zero (length a) are.some_left) (not_zero (length b) are.some_right))
      ∙ cond-false _ _ _ (not_from_true _ (and_from _ _ are.left are.right))

  pub parts_read : nat_abs n ≤ bound → d ≤ bound → 0 < d → parts_or_fault bound a b n d ≡ Ok (n, d)
  parts_read fits_n fits_d some = past_digits ∙ cond-false _ _ _ (or_from _ _ (le-ltb _ _ fits_n) (le-ltb _ _ fits_d)) ∙ cond-false _ _ _ (not_zero d some)

-- ---- the sign does not change the magnitude
pub abs-signed_by : (field : List ℕ) (n : ℕ) → nat_abs (signed_by field n) ≡ n
abs-signed_by field n = abs_cases (starts_with_minus field) n
  where
    abs_neg : (n : ℕ) → nat_abs (neg_ℤ (pos n)) ≡ n
    abs_neg zero = refl
    abs_neg (suc n) = refl

    abs_cases : (b : Bool) (n : ℕ) → nat_abs (cond b (neg_ℤ (pos n)) (pos n)) ≡ n
    abs_cases true n = abs_neg n
    abs_cases false n = refl

-- ---- the number of a word with given parts
pub parts_by_fields : (bound : ℕ) (word left right : List ℕ) (r : Result (ℤ × ℕ) NumberFault) → left ≡ before slash word → right ≡ denominator word
    → r ≡ parts_or_fault bound (unsigned left) right (signed_by left (value_of (unsigned left))) (value_of right) → r ≡ parts_of bound word
unfolding parts_of
parts_by_fields bound word left right r is_left is_right e = rw (is_left, is_right) at e

pub decimal_by_fields : (bound : ℕ) (word left right : List ℕ) (r : Result (ℤ × ℕ) NumberFault) → is_decimal word ≡ true → left ≡ before point word → right ≡ bytes_after point word
    → r ≡ parts_or_fault bound (unsigned left) right (signed_by left (value_of (unsigned left) * 10 ^ length right + value_of right)) (10 ^ length right)
    → r ≡ decimal_parts_of bound word
unfolding decimal_parts_of
decimal_by_fields bound word left right r is is_left is_right e = rw (is_left, is_right) at e ∙ sym (cond-true _ _ _ is)

pub fraction_by_fields : (bound : ℕ) (word : List ℕ) (r : Result (ℤ × ℕ) NumberFault) → is_decimal word ≡ false → r ≡ parts_of bound word → r ≡ decimal_parts_of bound word
unfolding decimal_parts_of
fraction_by_fields bound word r is e = e ∙ sym (cond-false _ _ _ is)

pub value_from : (bound : ℕ) (word : List ℕ) (r : Result (ℤ × ℕ) NumberFault) → r ≡ parts_of bound word → IfOk r (λ p. number_of bound word ≡ Ok (ratio p.0 p.1))
unfolding number_of
value_from bound word (Ok p) e = ap as_ratio (sym e)
value_from bound word (Err fault) e = tt

pub fault_from : (bound : ℕ) (word : List ℕ) (r : Result (ℤ × ℕ) NumberFault) → r ≡ parts_of bound word → IfErr r (λ fault. number_of bound word ≡ Err fault)
unfolding number_of
fault_from bound word (Ok p) e = tt
fault_from bound word (Err fault) e = ap as_ratio (sym e)

pub decimal_value_from : (bound : ℕ) (word : List ℕ) (r : Result (ℤ × ℕ) NumberFault) → r ≡ decimal_parts_of bound word → IfOk r (λ p. decimal_of bound word ≡ Ok (ratio p.0 p.1))
unfolding decimal_of
decimal_value_from bound word (Ok p) e = ap as_ratio (sym e)
decimal_value_from bound word (Err fault) e = tt

pub decimal_fault_from : (bound : ℕ) (word : List ℕ) (r : Result (ℤ × ℕ) NumberFault) → r ≡ decimal_parts_of bound word → IfErr r (λ fault. decimal_of bound word ≡ Err fault)
unfolding decimal_of
decimal_fault_from bound word (Ok p) e = tt
decimal_fault_from bound word (Err fault) e = ap as_ratio (sym e)

-- a decimal without a fault
pub decimal_given : (bound : ℕ) (left digits right : List ℕ) (num den : ℕ) (m : ℤ) → digits ≡ unsigned left → AreFields digits right
    → value_of digits * 10 ^ length right + value_of right ≤ bound → num ≡ value_of digits * 10 ^ length right + value_of right
    → 10 ^ length right ≤ bound → den ≡ 10 ^ length right → m ≡ signed_by left num
    → Ok (m, den) ≡ parts_or_fault bound (unsigned left) right (signed_by left (value_of (unsigned left) * 10 ^ length right + value_of right)) (10 ^ length right)
decimal_given bound left digits right num den m is_digits are fits_num is_num fits_den is_den is_m =
    let value = value_of (unsigned left) * 10 ^ length right + value_of right in
    let same : value_of digits * 10 ^ length right + value_of right ≡ value = ap (λ ds. value_of ds * 10 ^ length right + value_of right) is_digits in
    ap (λ (n : ℤ). Ok (n, den)) (is_m ∙ ap (signed_by left) (is_num ∙ same))
    ∙ ap (λ (d : ℕ). Ok (signed_by left value, d)) is_den
    ∙ sym (parts_read bound (unsigned left) right (signed_by left value) (10 ^ length right) (subst (λ ds. AreFields ds right) is_digits are)
    (subst (λ (n : ℕ). n ≤ bound) (same ∙ sym (abs-signed_by left value)) fits_num) fits_den (one-le-pow (length right) 10 (omega arith)))

-- ---- parsed parts are within the bound
abbrev IsWithin : ℕ → ℤ × ℕ → Type 0
IsWithin bound p = (nat_abs p.0 ≤ bound) × (p.1 ≤ bound) × (0 < p.1)

within_cases : (bound : ℕ) (n : ℤ) (d : ℕ) (some fine wide none : Bool) → (nat_lt bound (nat_abs n) || nat_lt bound d) ≡ wide → (d == 0) ≡ none
    → IfOk (cond some (Err Empty) (cond fine (Err BadDigit) (cond wide (Err TooWide) (cond none (Err ZeroDenominator) (Ok (n, d)))))) (IsWithin bound)
within_cases bound n d true fine wide none w z = tt
within_cases bound n d false true wide none w z = tt
within_cases bound n d false false true none w z = tt
within_cases bound n d false false false true w z = tt
within_cases bound n d false false false false w z =
    let q = or_parts _ _ w in
    let some : d ≡ 0 → ⊥ = eqb-false d 0 z in
    (ltb-false bound (nat_abs n) q.0, ltb-false bound d q.1, omega arith)

fields_within : (bound : ℕ) (left right : List ℕ) (n : ℤ) (d : ℕ) → IfOk (parts_or_fault bound left right n d) (IsWithin bound)
fields_within bound left right n d =
    within_cases bound n d (length left == 0 || length right == 0) (not (are_digits left && are_digits right)) (nat_lt bound (nat_abs n) || nat_lt bound d) (d == 0) refl refl

parts_of_within : (bound : ℕ) (word : List ℕ) → IfOk (parts_of bound word) (IsWithin bound)
unfolding parts_of
parts_of_within bound word =
    fields_within bound (unsigned (before slash word)) (denominator word) (signed_by (before slash word) (value_of (unsigned (before slash word))))
    (value_of (denominator word))

decimal_parts_of_within : (bound : ℕ) (word : List ℕ) → IfOk (decimal_parts_of bound word) (IsWithin bound)
unfolding decimal_parts_of
decimal_parts_of_within bound word = either (is_decimal word) _ _
    (fields_within bound (unsigned (before point word)) (bytes_after point word)
    (signed_by (before point word) (value_of (unsigned (before point word)) * 10 ^ length (bytes_after point word) + value_of (bytes_after point word))) (10 ^ length (bytes_after point word)))
    (parts_of_within bound word)
  where
    either : (b : Bool) (x y : Result (ℤ × ℕ) NumberFault) → IfOk x (IsWithin bound) → IfOk y (IsWithin bound) → IfOk (cond b x y) (IsWithin bound)
    either true x y h k = h
    either false x y h k = k

pub parts_within : (bound : ℕ) (word : List ℕ) (r : Result (ℤ × ℕ) NumberFault) → r ≡ parts_of bound word → IfOk r (λ p. (nat_abs p.0 ≤ bound) × (p.1 ≤ bound) × (0 < p.1))
parts_within bound word r e = subst (λ (r : Result (ℤ × ℕ) NumberFault). IfOk r (IsWithin bound)) (sym e) (parts_of_within bound word)

pub decimal_parts_within : (bound : ℕ) (word : List ℕ) (r : Result (ℤ × ℕ) NumberFault) → r ≡ decimal_parts_of bound word
    → IfOk r (λ p. (nat_abs p.0 ≤ bound) × (p.1 ≤ bound) × (0 < p.1))
decimal_parts_within bound word r e = subst (λ (r : Result (ℤ × ℕ) NumberFault). IfOk r (IsWithin bound)) (sym e) (decimal_parts_of_within bound word)
