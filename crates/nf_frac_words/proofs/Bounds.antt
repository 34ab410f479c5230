-- Numbers that exceed a bound before all their digits are read.
use Rattle.std.proofs.Common.{subst, ◌≡◌, ℕ, suc, ◌+◌, ◌-◌, ◌*◌, ◌/◌, ◌^◌, ◌<◌, ◌≤◌, List, [], ◌∷◌, length, get_or, drop, true, sym, ap, ◌∙◌, arith, pow-suc}
use Rattle.std.proofs.Math.Nat.{pow-le-pow_right}
use Rattle.std.proofs.lemmas.List.{drop_more, drop_all}
use Rattle.std.proofs.lemmas.Bool.{and_parts}
use Rattle.std.specs.Char.{is_ascii_digit}
use Rattle.nf_frac_words.specs.Digits.{are_digits, value_after, value_of}
use Rattle.std.specs.Prelude.{Option, SomeIff}
use Rattle.nf_frac_words.proofs.Digits.{le-value_after}

-- a value above a tenth of the bound exceeds the bound with one more digit
pub passes_by_tenth : (start value bound i : ℕ) (digits : List ℕ) → i < length digits → value_after value (drop i digits) ≡ value_after start digits
    → bound / 10 < value → value_after start digits ≤ bound → ⊥
passes_by_tenth start value bound i digits h rest wide fits =
    let step : value_after value (drop i digits) ≡ value_after (10 * value + (get_or digits i 0 - 48)) (drop (i + 1) digits) = ap (value_after value) (drop_more digits i 0 h) in
    let most : 10 * value + (get_or digits i 0 - 48) ≤ value_after (10 * value + (get_or digits i 0 - 48)) (drop (i + 1) digits) =
    le-value_after (10 * value + (get_or digits i 0 - 48)) (drop (i + 1) digits) in
    omega arith

-- a value that exceeds the bound with this digit exceeds it with all digits
pub passes_by_digit : (start value bound i : ℕ) (digits : List ℕ) → i < length digits → value_after value (drop i digits) ≡ value_after start digits
    → bound < 10 * value + (get_or digits i 0 - 48) → value_after start digits ≤ bound → ⊥
passes_by_digit start value bound i digits h rest wide fits =
    let step : value_after value (drop i digits) ≡ value_after (10 * value + (get_or digits i 0 - 48)) (drop (i + 1) digits) = ap (value_after value) (drop_more digits i 0 h) in
    let most : 10 * value + (get_or digits i 0 - 48) ≤ value_after (10 * value + (get_or digits i 0 - 48)) (drop (i + 1) digits) =
    le-value_after (10 * value + (get_or digits i 0 - 48)) (drop (i + 1) digits) in
    omega arith

-- ---- digit by digit
pub value_by_digit : (start value i : ℕ) (digits : List ℕ) → i < length digits → value_after value (drop i digits) ≡ value_after start digits
    → value_after (10 * value + (get_or digits i 0 - 48)) (drop (i + 1) digits) ≡ value_after start digits
value_by_digit start value i digits h rest = sym (ap (value_after value) (drop_more digits i 0 h)) ∙ rest

pub value_at_end : (start value i : ℕ) (digits : List ℕ) → length digits ≤ i → value_after value (drop i digits) ≡ value_after start digits → value ≡ value_after start digits
value_at_end start value i digits h rest = sym (ap (value_after value) (drop_all i digits h)) ∙ rest

pub next_is_digit : (digits : List ℕ) (i : ℕ) → i < length digits → are_digits (drop i digits) ≡ true
    → (is_ascii_digit (get_or digits i 0) ≡ true) × (are_digits (drop (i + 1) digits) ≡ true)
next_is_digit digits i h all = and_parts _ _ (sym (ap are_digits (drop_more digits i 0 h)) ∙ all)

-- if a power of ten exceeds a tenth of the bound, the next power exceeds the bound
pub power_passes : (i exponent bound : ℕ) → i < exponent → bound / 10 < 10 ^ i → 10 ^ exponent ≤ bound → ⊥
power_passes i exponent bound h wide fits =
    let next : 10 ^ suc i ≡ 10 ^ i * 10 = pow-suc 10 i in
    let most : 10 ^ suc i ≤ 10 ^ exponent = pow-le-pow_right {n = 10} (omega arith) h in
    omega arith

-- ---- a number of at most 18 digits fits 64 bits
pub few_so_far : (value i count : ℕ) → i < count → count ≤ 18 → value < 10 ^ i → value < 10 ^ 17
few_so_far value i count h few small =
    let within : i ≤ 17 = omega arith in
    let most : 10 ^ i ≤ 10 ^ 17 = pow-le-pow_right {n = 10} (omega arith) within in
    omega arith

pub few_at_end : (value i count : ℕ) → i ≤ count → count ≤ 18 → value < 10 ^ i → value < 10 ^ 18
few_at_end value i count h few small =
    let within : i ≤ 18 = omega arith in
    let most : 10 ^ i ≤ 10 ^ 18 = pow-le-pow_right {n = 10} (omega arith) within in
    omega arith

-- ---- the digits of one field after those of another
pub value_after-shift : (n : ℕ) (digits : List ℕ) → value_after n digits ≡ n * 10 ^ length digits + value_of digits
value_after-shift n [] = omega arith
value_after-shift n (c ∷ rest) =
    let scale : 10 ^ suc (length rest) ≡ 10 ^ length rest * 10 = pow-suc 10 (length rest) in
    let all : value_after (10 * n + (c - 48)) rest ≡ (10 * n + (c - 48)) * 10 ^ length rest + value_of rest = value_after-shift (10 * n + (c - 48)) rest in
    let own : value_after (10 * 0 + (c - 48)) rest ≡ (10 * 0 + (c - 48)) * 10 ^ length rest + value_of rest = value_after-shift (10 * 0 + (c - 48)) rest in
    rw scale (omega arith)

-- if the first field exceeds the bound, both fields together exceed it
pub first_passes : (bound : ℕ) (left right : List ℕ) → (value_of left ≤ bound → ⊥) → value_of left * 10 ^ length right + value_of right ≤ bound → ⊥
first_passes bound left right wide fits =
    let all : value_after (value_of left) right ≡ value_of left * 10 ^ length right + value_of right = value_after-shift (value_of left) right in
    let most : value_of left ≤ value_after (value_of left) right = le-value_after (value_of left) right in
    wide (omega arith)

pub both_fields : (bound : ℕ) (left right : List ℕ) (whole : ℕ) (r : Option ℕ) → whole ≡ value_of left → SomeIff r (value_after whole right ≤ bound) (value_after whole right)
    → SomeIff r (value_of left * 10 ^ length right + value_of right ≤ bound) (value_of left * 10 ^ length right + value_of right)
both_fields bound left right whole r e h =
    subst (λ (v : ℕ). SomeIff r (v ≤ bound) v) (ap (λ n. value_after n right) e ∙ value_after-shift (value_of left) right) h
