-- The words of counts.
use Rattle.std.proofs.Common.{◌≡◌, ℕ, ◌+◌, ◌-◌, ◌*◌, ◌/◌, ◌%◌, ◌^◌, ◌<◌, ◌≤◌, Bool, true, false, not, List, [], ◌∷◌, ◌++◌, refl, sym, ap, ◌∙◌, subst, arith}
use Rattle.std.specs.Prelude.{◌==◌, cond, Some, None}
use Rattle.std.proofs.lemmas.Bool.{and_parts, and_from, lt-ltb, ltb-true, not-true, eqb-false, ne_eqb, not_from_false, cond-true, cond-false, and_left, and_right, le-ltb}
use Rattle.std.specs.Char.{is_ascii_digit}
use Rattle.nf_frac_words.specs.Digits.{value_after, value_of, digits_of, is_plain_count, count_of}
use Rattle.nf_frac_words.proofs.Digits.{digit_range, digit_again, digit_from, digits_one, digits_of-value_after, value_of-digits_of, by_steps, are_digits-append}

-- ---- a plain word consists of the digits of its number
value_first : (c : ℕ) (rest : List ℕ) → value_of (c ∷ rest) ≡ value_after (c - 48) rest
value_first c rest = let e : 10 * 0 + (c - 48) ≡ c - 48 = omega arith in ap (λ n. value_after n rest) e

digits_first : (c : ℕ) → is_ascii_digit c ≡ true → digits_of (c - 48) ≡ c ∷ []
digits_first c e =
    let r = digit_range c e in
    let below : c - 48 < 10 = omega arith in
    digits_one (c - 48) below ∙ ap (λ (d : ℕ). d ∷ []) (digit_again c e)

pub plain_is_digits : (word : List ℕ) → is_plain_count word ≡ true → digits_of (value_of word) ≡ word
plain_is_digits [] e = cc
plain_is_digits (c ∷ []) e = ap digits_of (value_first c []) ∙ digits_first c e
plain_is_digits (c ∷ d ∷ rest) e =
    let both = and_parts _ _ e in
    let parts = and_parts _ _ both.0 in
    let r = digit_range c parts.0 in
    let nonzero : c ≡ 48 → ⊥ = eqb-false c 48 (not-true _ both.1) in
    let some : 0 < c - 48 = omega arith in
    ap digits_of (value_first c (d ∷ rest)) ∙ digits_of-value_after (c - 48) (d ∷ rest) some parts.1 ∙ ap (λ ds. ds ++ d ∷ rest) (digits_first c parts.0)

-- ---- the digits of a number are plain
abbrev is_positive : List ℕ → Bool
is_positive [] = false
is_positive (c ∷ rest) = not (c == 48)

record IsText (n : ℕ) (ds : List ℕ) : Type 0 where
  plain : is_plain_count ds ≡ true
  positive : 0 < n → is_positive ds ≡ true

plain_push : (ds : List ℕ) (d : ℕ) → is_plain_count ds ≡ true → is_positive ds ≡ true → is_ascii_digit d ≡ true → (is_plain_count (ds ++ d ∷ []) ≡ true) × (is_positive (ds ++ d ∷ []) ≡ true)
plain_push [] d plain positive e = cc
plain_push (c ∷ []) d plain positive e = (and_from _ _ (and_from _ _ plain (and_from _ _ e refl)) positive, positive)
plain_push (c ∷ b ∷ rest) d plain positive e = (and_from _ _ (are_digits-append (c ∷ b ∷ rest) (d ∷ []) (and_parts _ _ plain).0 (and_from _ _ e refl)) positive, positive)

text_one : (n : ℕ) → n < 10 → IsText n ((48 + n) ∷ [])
text_one n h = record { plain = digit_from n h; positive = λ some. not_from_false _ (ne_eqb (48 + n) 48 (λ e. omega arith)) }

text_more : (n : ℕ) (ds : List ℕ) → 10 ≤ n → IsText (n / 10) ds → IsText n (ds ++ (48 + n % 10) ∷ [])
text_more n ds h t =
    let tens : 0 < n / 10 = omega arith in
    let last : n % 10 < 10 = omega arith in
    let p = plain_push ds (48 + n % 10) t.plain (t.positive tens) (digit_from (n % 10) last) in
    record { plain = p.0; positive = λ some. p.1 }

pub digits_are_plain : (n : ℕ) → is_plain_count (digits_of n) ≡ true
digits_are_plain n = (by_steps IsText text_one text_more n).plain

-- ---- the word of a count
some_cases : (b : Bool) (m n : ℕ) → cond b (Some m) None ≡ Some n → (b ≡ true) × (m ≡ n)
some_cases true m n e = (refl, cc)
some_cases false m n e = cc

pub digits_from_count : (word : List ℕ) (n : ℕ) → count_of word ≡ Some n → (word ≡ digits_of n) × (n < 2 ^ 64)
unfolding count_of
digits_from_count word n e =
    let found = some_cases _ (value_of word) n e in
    let parts = and_parts _ _ found.0 in
    (sym (plain_is_digits word parts.0) ∙ ap digits_of found.1, subst (λ (m : ℕ). m < 2 ^ 64) found.1 (ltb-true _ _ parts.1))

count_of-digits : (n : ℕ) → n < 2 ^ 64 → count_of (digits_of n) ≡ Some n
unfolding count_of
count_of-digits n h =
    cond-true _ _ _ (and_from _ _ (digits_are_plain n) (lt-ltb _ _ (subst (λ (m : ℕ). m < 2 ^ 64) (sym (value_of-digits_of n)) h)))
    ∙ ap Some (value_of-digits_of n)

pub count_from_digits : (word : List ℕ) (n : ℕ) → (word ≡ digits_of n) × (n < 2 ^ 64) → count_of word ≡ Some n
count_from_digits word n h = ap count_of h.0 ∙ count_of-digits n h.1

-- ---- case by case
pub count_not_plain : (word : List ℕ) → is_plain_count word ≡ false → None ≡ count_of word
unfolding count_of
count_not_plain word e = sym (cond-false _ _ _ (and_left _ _ e))

pub count_wide : (word : List ℕ) → (value_of word ≤ 2 ^ 64 - 1 → ⊥) → None ≡ count_of word
unfolding count_of
count_wide word wide = let past : 2 ^ 64 ≤ value_of word = omega arith in sym (cond-false _ _ _ (and_right _ _ (le-ltb _ _ past)))

pub count_fits : (word : List ℕ) (value : ℕ) → is_plain_count word ≡ true → value_of word ≤ 2 ^ 64 - 1 → value_of word ≡ value → Some value ≡ count_of word
unfolding count_of
count_fits word value plain fits e = let within : value_of word < 2 ^ 64 = omega arith in ap Some (sym e) ∙ sym (cond-true _ _ _ (and_from _ _ plain (lt-ltb _ _ within)))
