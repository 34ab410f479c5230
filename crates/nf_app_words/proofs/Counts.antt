-- A count is the number that `parse` reads from a word of digits.
use Rattle.std.proofs.Common.{◌≡◌, ℕ, ◌+◌, ◌-◌, ◌*◌, ◌^◌, ◌<◌, ◌≤◌, Bool, true, false, ◌&&◌, cond, List, length, refl, sym, ap, ◌∙◌, subst, inl, inr, arith}
use Rattle.std.proofs.Common.{Some, None, IfSome, Ok, Err}
use Rattle.nf_app_words.proofs.Common.{and_parts, and_from, and_left, and_right, le-leb, leb-true, lt-leb, cond-true, cond-false, not-true, eqb-false}
use Rattle.nf_app_words.proofs.Common.{cases_lt, is_whole, is_between}
use Rattle.std.specs.Str.Parse.{ParsesUnsigned}
use Rattle.std.proofs.lemmas.Str.Parse.{IsDigitsTest, FoldsDigits, IsNumeralModel, numerals_by_fold, parse_digits}
use Rattle.nf_frac_words.specs.Digits.{are_digits, value_after, value_of}
use Rattle.nf_frac_words.proofs.Digits.{digit_range}
use Rattle.nf_app_words.specs.Numbers.{count_between}

-- ---- digits, and their value
tells : IsDigitsTest (λ ds. are_digits ds ≡ true)
tells = record {
  empty = refl;
  parts = λ c cs e. let p = and_parts _ _ e in (digit_range c p.0, p.1);
  more = λ c cs r e. and_from _ _ (and_from _ _ (le-leb 48 c r.0) (le-leb c 57 r.1)) e;
}

folds : FoldsDigits value_after
folds = record {
  empty = λ n. refl;
  more = λ n c cs r. let e : 10 * n + (c - 48) ≡ n * 10 + (c - 48) = omega arith in ap (λ (k : ℕ). value_after k cs) e;
}

own : IsNumeralModel (λ ds. are_digits ds ≡ true) (value_after 0)
own = numerals_by_fold _ tells value_after folds

record IsWhole (word : List ℕ) : Type 0 where
  some : 0 < length word
  digits : are_digits word ≡ true

whole : (word : List ℕ) → is_whole word ≡ true → IsWhole word
whole word e =
    let p = and_parts _ _ e in
    let some : length word ≡ 0 → ⊥ = eqb-false (length word) 0 (not-true _ p.0) in
    record { some = omega arith; digits = p.1 }

-- ---- the count of a word
module _ (least most : ℕ) (word : List ℕ) where
  pub not_whole : is_whole word ≡ false → None ≡ count_between least most word
  unfolding count_between
  not_whole e = sym (cond-false _ _ _ (and_left _ _ e))

  module _ (is : is_whole word ≡ true) where
    reads : (n : ℕ) → ParsesUnsigned {E = ℕ} 64 10 word (Ok n) → n ≡ value_of word
    reads n parsed = (parse_digits own {E = ℕ} 64 word (Ok n) parsed (whole word is).digits).1

    pub count_read : (n : ℕ) → ParsesUnsigned {E = ℕ} 64 10 word (Ok n) → is_between least most n ≡ true → Some n ≡ count_between least most word
    unfolding count_between
    count_read n parsed between =
        let same = reads n parsed in
        ap Some same ∙ sym (cond-true _ _ _ (and_from _ _ is (subst (λ (v : ℕ). is_between least most v ≡ true) same between)))

    pub not_between : (n : ℕ) → ParsesUnsigned {E = ℕ} 64 10 word (Ok n) → is_between least most n ≡ false → None ≡ count_between least most word
    unfolding count_between
    not_between n parsed outside =
        let same = reads n parsed in
        sym (cond-false _ _ _ (and_right (is_whole word) _ (subst (λ (v : ℕ). is_between least most v ≡ false) same outside)))

    pub too_wide : most < 2 ^ 64 → ParsesUnsigned {E = ℕ} 64 10 word (Err 0) → None ≡ count_between least most word
    unfolding count_between
    too_wide below parsed =
        let facts = whole word is in
        let never = parse_digits own {E = ℕ} 64 word (Err 0) parsed facts.digits in
        let wide : most < value_of word = elim (cases_lt (value_of word) (2 ^ 64)) [ inl low ↦ absurd (never (facts.some, low)) | inr high ↦ omega arith ] in
        sym (cond-false _ _ _ (and_right (is_whole word) _ (and_right _ _ (lt-leb (value_of word) most wide))))

-- a count is within its limits
some_within : (least most n : ℕ) (whole between : Bool) → is_between least most n ≡ between → IfSome (cond (whole && between) (Some n) None) (λ m. (least ≤ m) × (m ≤ most))
some_within least most n true true e = let p = and_parts _ _ e in (leb-true _ _ p.0, leb-true _ _ p.1)
some_within least most n true false e = tt
some_within least most n false between e = tt

pub count_within : (least most : ℕ) (word : List ℕ) → IfSome (count_between least most word) (λ m. (least ≤ m) × (m ≤ most))
unfolding count_between
count_within least most word = some_within least most (value_of word) (is_whole word) (is_between least most (value_of word)) refl
