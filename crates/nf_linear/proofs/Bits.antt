-- Sets of numbers in one word, read bit by bit.
use Rattle.std.proofs.Common.{◌≡◌, ℕ, zero, suc, ◌+◌, ◌-◌, ◌*◌, ◌/◌, ◌%◌, ◌^◌, ◌<◌, ◌≤◌, min, ⊎_elim, refl, sym, ap, subst, ◌∙◌, arith, pow_pos, mod-lt}
use Rattle.nf_linear.proofs.Common.{w64, bit_at, trailing_zeros, rotate_right, bit_or, bit_at-zero, bit_at_or, bit_at_and, bit_at_ones, bit_at-lt}
use Rattle.nf_linear.proofs.Common.{bit_at_cat_high, bit_at-trailing_zeros, le-max_left, le-max_right, min-eq_right, cases_lt, IsFree, IsSubset}
use Rattle.std.proofs.lemmas.Nat.{shr-shr, trailing_le, and_mask, or_lt, shr_le}

-- ---- one set and another
pub within_left : (a b : ℕ) → IsSubset a (bit_or a b)
within_left a b i = subst (λ (n : ℕ). bit_at a i ≤ n) (sym (bit_at_or a b i)) (le-max_left (bit_at a i) (bit_at b i))

pub within_right : (a b : ℕ) → IsSubset b (bit_or a b)
within_right a b i = subst (λ (n : ℕ). bit_at b i ≤ n) (sym (bit_at_or a b i)) (le-max_right (bit_at a i) (bit_at b i))

pub free_within : (a b i : ℕ) → IsSubset a b → IsFree b i → IsFree a i
free_within a b i within free = let small = within (i % 64) in omega arith

-- a number is in a set or not
pub not_free : (a i : ℕ) → bit_at a (i % 64) ≡ 1 → IsFree a i → ⊥
not_free a i one free = absurd (omega arith)

pub bit_cases : (a i : ℕ) (P : Type 0) → (bit_at a i ≡ 0 → P) → (bit_at a i ≡ 1 → P) → P
bit_cases a i P zero_so one_so = go (bit_at a i) refl (bit_at-lt a i)
  where
    go : (n : ℕ) → bit_at a i ≡ n → n < 2 → P
    go zero e b = zero_so e
    go (suc zero) e b = one_so e
    go (suc (suc n)) e b = absurd (omega arith)

-- ---- the first number from a place on
low_zeros : (n d : ℕ) → n < 2 ^ 64 → d < trailing_zeros w64 n → bit_at n d ≡ 0
low_zeros zero d fits b = bit_at-zero d
low_zeros (suc n) d fits b = (bit_at-trailing_zeros w64 (suc n) (omega arith) fits).2 d b

left_of_or : (a b d : ℕ) → bit_at (bit_or a b) d ≡ 0 → bit_at a d ≡ 0
left_of_or a b d free = let small = within_left a b d in omega arith

right_of_or : (a b d : ℕ) → bit_at (bit_or a b) d ≡ 0 → bit_at b d ≡ 0
right_of_or a b d free = let small = within_right a b d in omega arith

shifted_down : (n s d : ℕ) → bit_at (n / 2 ^ s) d ≡ bit_at n (s + d)
shifted_down n s d = ap (λ (m : ℕ). m % 2) (shr-shr n s d)

min_one : (x : ℕ) → min x 1 ≡ 0 → x ≡ 0
min_one zero e = refl
min_one (suc x) e = let one : min (suc x) 1 ≡ 1 = min-eq_right (omega arith) in absurd (omega arith)

-- the bits below the width are those of the whole number
cut_off : (n d : ℕ) → d < 64 → bit_at (n % 2 ^ 64) d ≡ 0 → bit_at n d ≡ 0
cut_off n d b free =
    min_one (bit_at n d)
    (ap (min (bit_at n d)) (sym (bit_at_ones 64 d b)) ∙ sym (bit_at_and n (2 ^ 64 - 1) d) ∙ ap (λ (m : ℕ). bit_at m d) (and_mask n 64) ∙ free)

shifted_up : (n k d : ℕ) → k ≤ d → bit_at (n * 2 ^ k) d ≡ bit_at n (d - k)
shifted_up n k d b = ap (λ (m : ℕ). bit_at m d) (let e : n * 2 ^ k ≡ n * 2 ^ k + 0 = omega arith in e) ∙ bit_at_cat_high n k 0 d (pow_pos k) b

-- a bit of a rotated word that is 0
turned : (word s d : ℕ) → s < 64 → d < 64 → bit_at (rotate_right w64 word s) d ≡ 0 → bit_at word ((s + d) % 64) ≡ 0
turned word s d inside b free =
    let by : s % 64 ≡ s = omega arith in
    ⊎_elim
    (λ (low : s + d < 64).
    let at : (s + d) % 64 ≡ s + d = omega arith in
    ap (bit_at word) at ∙ sym (shifted_down word s d) ∙ ap (λ (k : ℕ). bit_at (word / 2 ^ k) d) (sym by)
    ∙ left_of_or (word / 2 ^ (s % 64)) (word * 2 ^ ((64 - s % 64) % 64) % 2 ^ 64) d free)
    (λ (high : 64 ≤ s + d).
    let at : (s + d) % 64 ≡ d - (64 - s) = omega arith in
    let up : (64 - s % 64) % 64 ≡ 64 - s = omega arith in
    ap (bit_at word) at ∙ sym (shifted_up word (64 - s) d (omega arith)) ∙ ap (λ (k : ℕ). bit_at (word * 2 ^ k) d) (sym up)
    ∙ cut_off (word * 2 ^ ((64 - s % 64) % 64)) d b (right_of_or (word / 2 ^ (s % 64)) (word * 2 ^ ((64 - s % 64) % 64) % 2 ^ 64) d free))
    (cases_lt (s + d) 64)

rotated_fits : (word s : ℕ) → word < 2 ^ 64 → rotate_right w64 word s < 2 ^ 64
rotated_fits word s fits = or_lt 64 (word / 2 ^ (s % 64)) (word * 2 ^ ((64 - s % 64) % 64) % 2 ^ 64) (omega (arith, shr_le word (s % 64))) (mod-lt _ (pow_pos 64))

-- the bits from a number on, in a rotated word: the first `least` of them are 0
pub free_before : (word from ahead least i : ℕ) → word < 2 ^ 64 → ahead ≡ rotate_right w64 word (from % 64) → least ≤ trailing_zeros w64 ahead → from ≤ i
    → i < from + least → IsFree word i
free_before word from ahead least i fits is small after before =
    let most : trailing_zeros w64 ahead ≤ 64 = trailing_le 64 ahead in
    let same : (from % 64 + (i - from)) % 64 ≡ i % 64 = omega arith in
    let below : ahead < 2 ^ 64 = subst (λ (n : ℕ). n < 2 ^ 64) (sym is) (rotated_fits word (from % 64) fits) in
    ap (bit_at word) (sym same)
    ∙ turned word (from % 64) (i - from) (omega arith) (omega arith)
    (subst (λ (n : ℕ). bit_at n (i - from) ≡ 0) is (low_zeros ahead (i - from) below (omega arith)))
