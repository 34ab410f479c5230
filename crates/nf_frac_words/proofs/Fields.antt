-- The fields of a word composed of digits, a sign and a separator.
use Rattle.std.proofs.Common.{◌≡◌, ℕ, ◌+◌, ◌<◌, ◌≤◌, Bool, true, false, not, cond, List, [], ◌∷◌, ◌++◌, length, take, drop, refl, sym, ap, ◌∙◌, arith}
use Rattle.std.specs.Prelude.{◌==◌, Some, None}
use Rattle.std.specs.List.{position, position_or_len}
use Rattle.std.specs.Option.{unwrap_or}
use Rattle.std.proofs.lemmas.List.Sums.{prefix_len-le-length}
use Rattle.std.specs.Str.Parse.{starts_with_minus}
use Rattle.std.specs.Char.{is_ascii_digit}
use Rattle.std.proofs.lemmas.Bool.{true≢false, or_parts, or_from, or_left, or_right, and_parts, cond-true, cond-false, eq-eqb, ne_eqb, not_from_true, not_from_false, ltb-false}
use Rattle.std.proofs.lemmas.List.{take_all, take_at, drop_at, drop-drop}
use Rattle.nf_frac_words.specs.Digits.{are_digits}
use Rattle.nf_frac_words.specs.Numbers.{has, before, bytes_after}
use Rattle.nf_frac_words.proofs.Digits.{digit_range}

-- ---- a byte that a word does not contain
pub has-append : (b : ℕ) (xs ys : List ℕ) → has b xs ≡ false → has b (xs ++ b ∷ ys) ≡ true
has-append b [] ys e = or_left _ _ (eq-eqb b b refl)
has-append b (x ∷ xs) ys e = or_right _ _ (has-append b xs ys (or_parts _ _ e).1)

prefix_none : (b : ℕ) (xs : List ℕ) → has b xs ≡ false → position_or_len (λ c. c == b) xs ≡ length xs
prefix_none b [] e = refl
prefix_none b (x ∷ xs) e =
    let h = or_parts (x == b) (has b xs) e in
    let step : position_or_len (λ c. c == b) (x ∷ xs) ≡ 1 + position_or_len (λ c. c == b) xs = cond-true _ _ _ (not_from_false _ h.0) in
    let rest : position_or_len (λ c. c == b) xs ≡ length xs = prefix_none b xs h.1 in omega arith

prefix_found : (b : ℕ) (xs ys : List ℕ) → has b xs ≡ false → position_or_len (λ c. c == b) (xs ++ b ∷ ys) ≡ length xs
prefix_found b [] ys e = cond-false _ _ _ (not_from_true _ (eq-eqb b b refl))
prefix_found b (x ∷ xs) ys e =
    let h = or_parts (x == b) (has b xs) e in
    let step : position_or_len (λ c. c == b) (x ∷ (xs ++ b ∷ ys)) ≡ 1 + position_or_len (λ c. c == b) (xs ++ b ∷ ys) = cond-true _ _ _ (not_from_false _ h.0) in
    let rest : position_or_len (λ c. c == b) (xs ++ b ∷ ys) ≡ length xs = prefix_found b xs ys h.1 in omega arith

pub before_none : (b : ℕ) (xs : List ℕ) → has b xs ≡ false → before b xs ≡ xs
before_none b xs e = ap (λ n. take n xs) (prefix_none b xs e) ∙ take_all (length xs) xs (omega arith)

-- ---- the bytes before and after the first separator
pub before_at : (b : ℕ) (xs ys : List ℕ) → has b xs ≡ false → before b (xs ++ b ∷ ys) ≡ xs
before_at b xs ys e = ap (λ n. take n (xs ++ b ∷ ys)) (prefix_found b xs ys e) ∙ take_at xs (b ∷ ys) (length xs) refl

drop_past : (b : ℕ) (xs ys : List ℕ) → drop (length xs + 1) (xs ++ b ∷ ys) ≡ ys
drop_past b xs ys = sym (drop-drop 1 (length xs) (xs ++ b ∷ ys)) ∙ ap (drop 1) (drop_at xs (b ∷ ys) (length xs) refl)

pub after_at : (b : ℕ) (xs ys : List ℕ) → has b xs ≡ false → bytes_after b (xs ++ b ∷ ys) ≡ ys
after_at b xs ys e = ap (λ n. drop (n + 1) (xs ++ b ∷ ys)) (prefix_found b xs ys e) ∙ drop_past b xs ys

-- ---- digits contain neither a separator nor a sign
pub no_digit : (b c : ℕ) → b < 48 → is_ascii_digit c ≡ true → (c == b) ≡ false
no_digit b c h e = let r = digit_range c e in ne_eqb c b (λ same. omega arith)

pub none_in_digits : (b : ℕ) (ds : List ℕ) → b < 48 → are_digits ds ≡ true → has b ds ≡ false
none_in_digits b [] h e = refl
none_in_digits b (c ∷ ds) h e = let p = and_parts _ _ e in or_from _ _ (no_digit b c h p.0) (none_in_digits b ds h p.1)

-- the index of the first such byte, or the length if there is none
place_cases : (b : Bool) (place size : ℕ) → (b ≡ false → place ≡ size) → unwrap_or (cond b (Some place) None) size ≡ place
place_cases true place size none = refl
place_cases false place size none = sym (none refl)

pub place_from_position : (p : ℕ → Bool) (xs : List ℕ) → unwrap_or (position p xs) (length xs) ≡ position_or_len p xs
place_from_position p xs =
    place_cases _ _ _ (λ e. let past : length xs ≤ position_or_len p xs = ltb-false _ _ e in
    let within : position_or_len p xs ≤ length xs = prefix_len-le-length (λ x. not (p x)) xs in omega arith)

-- a field with a minus sign is not empty
pub minus_some : (field : List ℕ) → starts_with_minus field ≡ true → 1 ≤ length field
minus_some [] e = absurd (true≢false (sym e))
minus_some (c ∷ rest) e = omega arith
