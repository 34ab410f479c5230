-- The greatest common divisor, by Euclid's algorithm.
use Rattle.std.proofs.Common.{◌≡◌, ℕ, zero, suc, ◌*◌, ◌/◌, ◌%◌, ◌<◌, refl, sym, ◌∙◌, subst, arith}
use native.Mathlib.Nat.{dvd_antisymm, dvd-mul_right, mul-dvd-mul_left, dvd_of_mul-dvd-mul_left, mod-lt, zero-lt-suc, mul-div_cancel', mul-one, eq_of_mul-eq-mul_left}
use Rattle.std.specs.Int.{IsGcd}
use Rattle.std.proofs.lemmas.Nat.Gcd.{IsGcd-from_zero, IsGcd-from_mod, same_from_IsGcd}

-- runs at most `steps` steps of Euclid's algorithm
abbrev gcd_within : ℕ → ℕ → ℕ → ℕ
gcd_within zero a b = a
gcd_within (suc steps) a zero = a
gcd_within (suc steps) a (suc b) = gcd_within steps (suc b) (a % suc b)

-- the greatest common divisor; that of a and 0 is a
unfoldable pub gcd : ℕ → ℕ → ℕ
gcd a b = gcd_within (suc b) a b

steps_left : (a b f : ℕ) → suc b < suc f → a % suc b < f
steps_left a b f h = omega (arith, mod-lt a (zero-lt-suc b))

IsGcd-within : (f a b : ℕ) → b < f → IsGcd a b (gcd_within f a b)
IsGcd-within zero a b h = absurd (omega arith)
IsGcd-within (suc f) a zero h = IsGcd-from_zero a 0 refl
IsGcd-within (suc f) a (suc b) h =
    IsGcd-from_mod a (suc b) (gcd_within f (suc b) (a % suc b)) (IsGcd-within f (suc b) (a % suc b) (steps_left a b f h))

pub IsGcd-gcd : (a b : ℕ) → IsGcd a b (gcd a b)
unfolding gcd
IsGcd-gcd a b = IsGcd-within (suc b) a b (omega arith)

-- a common factor c of both numbers is a factor of their greatest common divisor
scaled_by : (c a b g k : ℕ) → 0 < c → IsGcd a b g → IsGcd (c * a) (c * b) (c * k) → c * k ≡ c * g
scaled_by c a b g k some h found =
    dvd_antisymm (mul-dvd-mul_left k c (h.2 k (dvd_of_mul-dvd-mul_left k some found.0) (dvd_of_mul-dvd-mul_left k some found.1)))
    (found.2 (c * g) (mul-dvd-mul_left g c h.0) (mul-dvd-mul_left g c h.1))

pub IsGcd-scaled : (c a b g : ℕ) → 0 < c → IsGcd a b g → IsGcd (c * a) (c * b) (c * g)
IsGcd-scaled c a b g some h =
    let is_k : c * (gcd (c * a) (c * b) / c) ≡ gcd (c * a) (c * b) =
    mul-div_cancel' c ((IsGcd-gcd (c * a) (c * b)).2 c (dvd-mul_right c a) (dvd-mul_right c b)) in
    let found : IsGcd (c * a) (c * b) (c * (gcd (c * a) (c * b) / c)) =
    subst (λ (m : ℕ). IsGcd (c * a) (c * b) m) (sym is_k) (IsGcd-gcd (c * a) (c * b)) in
    subst (λ (m : ℕ). IsGcd (c * a) (c * b) m) (scaled_by c a b g (gcd (c * a) (c * b) / c) some h found) found

-- two numbers divided by their greatest common divisor have no common factor
pub gcd_of_quotients : (g a b : ℕ) → 0 < g → IsGcd (g * a) (g * b) g → gcd a b ≡ 1
gcd_of_quotients g a b some h =
    eq_of_mul-eq-mul_left g some (gcd a b) 1
    (same_from_IsGcd (g * a) (g * b) (g * gcd a b) g (IsGcd-scaled g a b (gcd a b) some (IsGcd-gcd a b)) h ∙ sym (mul-one g))
