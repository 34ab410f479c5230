-- Sums over the numbers below a bound.
use Rattle.std.proofs.Common.{◌≡◌, ◌≢◌, ℕ, zero, suc, ◌<◌, [], ◌∷◌, refl, ap, ◌∙◌, arith}
use Rattle.nf_linear_laws.proofs.Common.{ℚ, 0ℚ, ◌+ℚ◌, ◌-ℚ◌, ◌*ℚ◌, ring, reading, rationals, both_are_zero, second_is_zero, first_is_zero}

abbrev pub total : ℕ → (ℕ → ℚ) → ℚ
total zero f = 0ℚ
total (suc n) f = f 0 +ℚ total n (λ j. f (suc j))

-- ---- equations of rationals that the sums need
pub none_less : (k : ℚ) → 0ℚ ≡ 0ℚ -ℚ k *ℚ 0ℚ
none_less k = ring rationals (k ∷ []) (search reading depth 30) tt

less_regrouped : (a b s t k : ℚ) → (a -ℚ k *ℚ b) +ℚ (s -ℚ k *ℚ t) ≡ (a +ℚ s) -ℚ k *ℚ (b +ℚ t)
less_regrouped a b s t k = ring rationals (a ∷ b ∷ s ∷ t ∷ k ∷ []) (search reading depth 30) tt

-- ---- terms
pub total_same : (n : ℕ) (f g : ℕ → ℚ) → ((j : ℕ) → j < n → f j ≡ g j) → total n f ≡ total n g
total_same zero f g h = refl
total_same (suc n) f g h =
    ap (λ (a : ℚ). a +ℚ total n (λ j. f (suc j))) (h 0 (omega arith))
    ∙ ap (λ (s : ℚ). g 0 +ℚ s) (total_same n (λ j. f (suc j)) (λ j. g (suc j)) (λ j b. h (suc j) (omega arith)))

pub total_zero : (n : ℕ) (f : ℕ → ℚ) → ((j : ℕ) → j < n → f j ≡ 0ℚ) → total n f ≡ 0ℚ
total_zero zero f h = refl
total_zero (suc n) f h = both_are_zero (f 0) (total n (λ j. f (suc j))) (h 0 (omega arith)) (total_zero n (λ j. f (suc j)) (λ j b. h (suc j) (omega arith)))

-- the sum of terms less k times others
pub total_less : (n : ℕ) (f g : ℕ → ℚ) (k : ℚ) → total n (λ j. f j -ℚ k *ℚ g j) ≡ total n f -ℚ k *ℚ total n g
total_less zero f g k = none_less k
total_less (suc n) f g k =
    ap (λ (s : ℚ). (f 0 -ℚ k *ℚ g 0) +ℚ s) (total_less n (λ j. f (suc j)) (λ j. g (suc j)) k)
    ∙ less_regrouped (f 0) (g 0) (total n (λ j. f (suc j))) (total n (λ j. g (suc j))) k

-- A single term.
pub total_one : (n c : ℕ) (f : ℕ → ℚ) → c < n → ((j : ℕ) → j < n → j ≢ c → f j ≡ 0ℚ) → total n f ≡ f c
total_one zero c f b h = absurd (omega arith)
total_one (suc n) zero f b h = second_is_zero (f 0) (total n (λ j. f (suc j))) (total_zero n (λ j. f (suc j)) (λ j b. h (suc j) (omega arith) (omega arith)))
total_one (suc n) (suc c) f b h =
    first_is_zero (f 0) (total n (λ j. f (suc j))) (h 0 (omega arith) (omega arith))
    ∙ total_one n c (λ j. f (suc j)) (omega arith) (λ j b other. h (suc j) (omega arith) (omega arith))

-- Two terms.
pub total_two : (n d c : ℕ) (f : ℕ → ℚ) → d < c → c < n → ((j : ℕ) → j < n → j ≢ d → j ≢ c → f j ≡ 0ℚ) → total n f ≡ f d +ℚ f c
total_two zero d c f a b h = absurd (omega arith)
total_two (suc n) d zero f a b h = absurd (omega arith)
total_two (suc n) zero (suc c) f a b h = ap (λ (s : ℚ). f 0 +ℚ s) (total_one n c (λ j. f (suc j)) (omega arith) (λ j b other. h (suc j) (omega arith) (omega arith) (omega arith)))
total_two (suc n) (suc d) (suc c) f a b h =
    first_is_zero (f 0) (total n (λ j. f (suc j))) (h 0 (omega arith) (omega arith) (omega arith))
    ∙ total_two n d c (λ j. f (suc j)) (omega arith) (omega arith) (λ j b other apart. h (suc j) (omega arith) (omega arith) (omega arith))
