-- The digits of a number, and the number with given digits.
use Rattle.std.proofs.Common.{subst, inl, inr, ◌≡◌, ℕ, zero, suc, ◌+◌, ◌-◌, ◌*◌, ◌/◌, ◌%◌, ◌<◌, ◌≤◌, Bool, true, false, List, [], ◌∷◌, ◌++◌, length, refl, sym, ap, ◌∙◌, arith, append_assoc, length-append}
use Rattle.std.proofs.lemmas.List.{append-nil}
use Rattle.std.specs.Char.{is_ascii_digit}
use Rattle.std.proofs.lemmas.Bool.{and_parts, and_from, leb-true, le-leb, le-ltb, lt-ltb, cases_lt}
use Rattle.nf_frac_words.specs.Digits.{are_digits, value_after, value_of, digits_within, digits_of}

-- ---- one digit
pub digit_range : (c : ℕ) → is_ascii_digit c ≡ true → (48 ≤ c) × (c ≤ 57)
digit_range c e = let p = and_parts _ _ e in (leb-true _ _ p.0, leb-true _ _ p.1)

pub digit_from : (d : ℕ) → d < 10 → is_ascii_digit (48 + d) ≡ true
digit_from d h = and_from _ _ (le-leb 48 (48 + d) (omega arith)) (le-leb (48 + d) 57 (omega arith))

pub digit_again : (c : ℕ) → is_ascii_digit c ≡ true → 48 + (c - 48) ≡ c
digit_again c e = let r = digit_range c e in omega arith

-- ---- lists of digits
pub are_digits-append : (xs ys : List ℕ) → are_digits xs ≡ true → are_digits ys ≡ true → are_digits (xs ++ ys) ≡ true
are_digits-append [] ys p q = q
are_digits-append (x ∷ xs) ys p q = let h = and_parts _ _ p in and_from _ _ h.0 (are_digits-append xs ys h.1 q)

pub value_after-append : (n : ℕ) (xs ys : List ℕ) → value_after n (xs ++ ys) ≡ value_after (value_after n xs) ys
value_after-append n [] ys = refl
value_after-append n (x ∷ xs) ys = value_after-append (10 * n + (x - 48)) xs ys

-- more digits do not make a number less
pub le-value_after : (n : ℕ) (digits : List ℕ) → n ≤ value_after n digits
le-value_after n [] = omega arith
le-value_after n (c ∷ rest) = let h : 10 * n + (c - 48) ≤ value_after (10 * n + (c - 48)) rest = le-value_after (10 * n + (c - 48)) rest in omega arith

-- ---- the digits of a number
-- one step, for n below ten and for other n
abbrev step_at : ℕ → ℕ → Bool → List ℕ
step_at k n true = (48 + n) ∷ []
step_at k n false = digits_within k (n / 10) ++ (48 + n % 10) ∷ []

pub within_one : (k n : ℕ) → n < 10 → digits_within (suc k) n ≡ (48 + n) ∷ []
within_one k n h = ap (step_at k n) (lt-ltb n 10 h)

pub within_more : (k n : ℕ) → 10 ≤ n → digits_within (suc k) n ≡ digits_within k (n / 10) ++ (48 + n % 10) ∷ []
within_more k n h = ap (step_at k n) (le-ltb n 10 h)

-- the digits do not depend on the bound on their count
within_same : (j k n : ℕ) → n < j → n < k → digits_within j n ≡ digits_within k n
within_same zero k n p q = absurd (omega arith)
within_same (suc j) zero n p q = absurd (omega arith)
within_same (suc j) (suc k) n p q = elim (cases_lt n 10) [
  | inl h ↦ within_one j n h ∙ sym (within_one k n h)
  | inr h ↦ within_more j n h ∙ ap (λ ds. ds ++ (48 + n % 10) ∷ []) (within_same j k (n / 10) (omega arith) (omega arith)) ∙ sym (within_more k n h)
]

pub digits_one : (n : ℕ) → n < 10 → digits_of n ≡ (48 + n) ∷ []
unfolding digits_of
digits_one n h = within_one n n h

pub digits_more : (n : ℕ) → 10 ≤ n → digits_of n ≡ digits_of (n / 10) ++ (48 + n % 10) ∷ []
unfolding digits_of
digits_more n h = within_more n n h ∙ ap (λ ds. ds ++ (48 + n % 10) ∷ []) (within_same n (suc (n / 10)) (n / 10) (omega arith) (omega arith))

pub digits_push : (n d : ℕ) → 0 < n → d < 10 → digits_of (10 * n + d) ≡ digits_of n ++ (48 + d) ∷ []
digits_push n d p q =
    let a : (10 * n + d) / 10 ≡ n = omega arith in
    let b : (10 * n + d) % 10 ≡ d = omega arith in
    rw (digits_more (10 * n + d) (omega arith), a, b) refl

-- induction on the digits of a number
module _ (P : ℕ → List ℕ → Type 0) (one : (n : ℕ) → n < 10 → P n ((48 + n) ∷ [])) (more : (n : ℕ) (ds : List ℕ) → 10 ≤ n → P (n / 10) ds → P n (ds ++ (48 + n % 10) ∷ [])) where
  by_steps_within : (k n : ℕ) → n < k → P n (digits_within k n)
  by_steps_within zero n h = absurd (omega arith)
  by_steps_within (suc k) n h = elim (cases_lt n 10) [
    | inl low ↦ subst (P n) (sym (within_one k n low)) (one n low)
    | inr high ↦ subst (P n) (sym (within_more k n high)) (more n (digits_within k (n / 10)) high (by_steps_within k (n / 10) (omega arith)))
  ]

  pub by_steps : (n : ℕ) → P n (digits_of n)
  unfolding digits_of
  by_steps n = by_steps_within (suc n) n (omega arith)

-- a number has at least one digit, and its digits have its value
pub are_digits-digits_of : (n : ℕ) → are_digits (digits_of n) ≡ true
are_digits-digits_of =
    by_steps (λ n ds. are_digits ds ≡ true) (λ n h. and_from _ _ (digit_from n h) refl)
    (λ n ds h e. are_digits-append ds ((48 + n % 10) ∷ []) e (and_from _ _ (digit_from (n % 10) (omega arith)) refl))

pub value_of-digits_of : (n : ℕ) → value_of (digits_of n) ≡ n
value_of-digits_of =
    by_steps (λ n ds. value_of ds ≡ n) (λ n h. omega arith) (λ n ds h e. value_after-append 0 ds ((48 + n % 10) ∷ [])
    ∙ (let f : value_after 0 ds ≡ n / 10 = e in omega arith))

pub some_digits : (n : ℕ) → 0 < length (digits_of n)
some_digits = by_steps (λ n ds. 0 < length ds) (λ n h. omega arith) (λ n ds h e. omega (arith, length-append ds ((48 + n % 10) ∷ [])))

pub digits_injective : (m n : ℕ) → digits_of m ≡ digits_of n → m ≡ n
digits_injective m n e = sym (value_of-digits_of m) ∙ ap value_of e ∙ value_of-digits_of n

-- the digits of a number above 0 followed by more digits are the digits of the number with all these digits
pub digits_of-value_after : (n : ℕ) (rest : List ℕ) → 0 < n → are_digits rest ≡ true → digits_of (value_after n rest) ≡ digits_of n ++ rest
digits_of-value_after n [] some e = sym (append-nil (digits_of n))
digits_of-value_after n (c ∷ rest) some e =
    let h = and_parts _ _ e in
    let r = digit_range c h.0 in
    let below : c - 48 < 10 = omega arith in
    digits_of-value_after (10 * n + (c - 48)) rest (omega arith) h.1
    ∙ ap (λ ds. ds ++ rest) (digits_push n (c - 48) some below ∙ ap (λ (d : ℕ). digits_of n ++ d ∷ []) (digit_again c h.0))
    ∙ append_assoc (digits_of n) (c ∷ []) rest
