-- The greatest common divisor by differences of odd numbers.
use Rattle.std.proofs.Common.{◌≡◌, ℕ, zero, suc, ◌+◌, ◌-◌, ◌*◌, ◌/◌, ◌%◌, ◌^◌, ◌<◌, min, max, ◌⊎◌, inl, inr, refl, sym, ◌∙◌, ap, subst, arith}
use Rattle.nf_frac.proofs.Common.{IsGcd, trailing_zeros, bit_at, pow-add, IsGcd-swap, IsGcd-from_mod, IsGcd-from_zero, dvd_refl, dvd_of_mod-eq-zero}
use Rattle.nf_frac.proofs.Common.{same_from_IsGcd, pow-suc, mod-eq_of_lt, gcd, IsGcd-gcd, IsGcd-scaled, apart_parts, apart_product, split_dvd, gcd-le}
use Prim.Native.Nat.{◌∣◌}
use mir.Syntax.{w64}
use native.Mathlib.Nat.{dvd_trans, dvd-mul_left, mul-dvd-mul_left, mul-div_cancel', one-dvd, mul_comm}
use Rattle.std.proofs.lemmas.Nat.Bits.{bit_at-trailing_zeros}
use Rattle.nf_frac.proofs.Bits.{IsGcd-one}

-- ---- the power of 2 in a number
low_zeros : (n i : ℕ) → ((j : ℕ) → j < i → bit_at n j ≡ 0) → 2 ^ i ∣ n
low_zeros n zero h = one-dvd n
low_zeros n (suc i) h =
    let below : 2 ^ i ∣ n = low_zeros n i (λ j l. h j (omega (arith, l))) in
    subst (λ (m : ℕ). m ∣ n) (sym (pow-suc 2 i))
    (subst (λ (m : ℕ). 2 ^ i * 2 ∣ m) (mul-div_cancel' (2 ^ i) below) (mul-dvd-mul_left 2 (2 ^ i) (dvd_of_mod-eq-zero 2 (h i (omega arith)))))

module _ (n : ℕ) (some : 0 < n) (fits : n < 18446744073709551616) where
  lowest_place : (trailing_zeros w64 n < 64) × (bit_at n (trailing_zeros w64 n) ≡ 1) × ((i : ℕ) → i < trailing_zeros w64 n → bit_at n i ≡ 0)
  lowest_place = bit_at-trailing_zeros w64 n some fits

  pub odd_rest : n / 2 ^ trailing_zeros w64 n % 2 ≡ 1
  odd_rest = lowest_place.1

  pub power_rest : 2 ^ trailing_zeros w64 n * (n / 2 ^ trailing_zeros w64 n) ≡ n
  power_rest = mul-div_cancel' (2 ^ trailing_zeros w64 n) (low_zeros n (trailing_zeros w64 n) lowest_place.2)

-- ---- an odd number and a power of 2 have no common factor
odd_apart : (y : ℕ) → y % 2 ≡ 1 → IsGcd y 2 1
odd_apart y h = IsGcd-from_mod y 2 1 (IsGcd-one 2 (y % 2) h)

power_apart : (y k : ℕ) → y % 2 ≡ 1 → IsGcd (2 ^ k) y 1
power_apart y zero h = IsGcd-swap y 1 1 (IsGcd-one y 1 refl)
power_apart y (suc k) h = subst (λ (m : ℕ). IsGcd m y 1) (sym (pow-suc 2 k)) (apart_product (2 ^ k) 2 y (power_apart y k h) (IsGcd-swap y 2 1 (odd_apart y h)))

pub with_power : (k x y g : ℕ) → y % 2 ≡ 1 → IsGcd x y g → IsGcd (2 ^ k * x) y g
with_power k x y g odd h = (dvd_trans g h.0 (dvd-mul_left x (2 ^ k)), h.1, λ d u v. h.2 d (in_x d u v) v)
  where
    in_x : (d : ℕ) → d ∣ 2 ^ k * x → d ∣ y → d ∣ x
    in_x d u v =
        split_dvd d (2 ^ k) x
        (apart_parts y (2 ^ k) d (2 ^ k) (IsGcd-swap (2 ^ k) y 1 (power_apart y k odd)) v (dvd_refl (2 ^ k)))
        (subst (λ (m : ℕ). d ∣ m) (mul_comm (2 ^ k) x) u)

-- ---- one step: the remainder of the greater number, without its power of 2
from_ordered : (x y g : ℕ) → IsGcd (max x y) (min x y) g → IsGcd x y g
from_ordered x y g h = go (which x y)
  where
    which : (x y : ℕ) → ((min x y ≡ x) × (max x y ≡ y)) ⊎ ((min x y ≡ y) × (max x y ≡ x))
    which x y = grind arith

    go : ((min x y ≡ x) × (max x y ≡ y)) ⊎ ((min x y ≡ y) × (max x y ≡ x)) → IsGcd x y g
    go (inl w) = IsGcd-swap y x g (subst (λ (m : ℕ). IsGcd y m g) w.0 (subst (λ (m : ℕ). IsGcd m (min x y) g) w.1 h))
    go (inr w) = subst (λ (m : ℕ). IsGcd x m g) w.0 (subst (λ (m : ℕ). IsGcd m (min x y) g) w.1 h)

pub one_found : (a b x y less : ℕ) → less ≡ min x y → less ≡ 1 → ((g : ℕ) → IsGcd x y g → IsGcd a b g) → 1 ≡ gcd a b
one_found a b x y less l e f = same_from_IsGcd a b _ _ (f 1 (from_ordered x y 1 (IsGcd-one (max x y) (min x y) (sym l ∙ e)))) (IsGcd-gcd a b)

-- less and more are the lesser and the greater of x and y
module _ (x y less more rest : ℕ) (l : less ≡ min x y) (m : more ≡ max x y) (down : (g : ℕ) → IsGcd less rest g → IsGcd more less g) where
  pub step_down : (g : ℕ) → IsGcd less rest g → IsGcd x y g
  step_down g h = from_ordered x y g (subst (λ (k : ℕ). IsGcd (max x y) k g) l (subst (λ (k : ℕ). IsGcd k less g) m (down g h)))

  pub step : (r k g : ℕ) → less % 2 ≡ 1 → rest ≡ 2 ^ k * r → IsGcd less r g → IsGcd x y g
  step r k g odd e h = step_down g (subst (λ (j : ℕ). IsGcd less j g) (sym e) (IsGcd-swap (2 ^ k * r) less g (with_power k r less g odd (IsGcd-swap less r g h))))

pub odd_min : (x y : ℕ) → x % 2 ≡ 1 → y % 2 ≡ 1 → min x y % 2 ≡ 1
odd_min x y h k = go (which x y)
  where
    which : (x y : ℕ) → (min x y ≡ x) ⊎ (min x y ≡ y)
    which x y = grind arith

    go : (min x y ≡ x) ⊎ (min x y ≡ y) → min x y % 2 ≡ 1
    go (inl e) = ap (λ (m : ℕ). m % 2) e ∙ h
    go (inr e) = ap (λ (m : ℕ). m % 2) e ∙ k

-- ---- the common power of 2
shared : (i k x y g : ℕ) → x % 2 ≡ 1 → IsGcd x y g → IsGcd (2 ^ i * x) (2 ^ (i + k) * y) (2 ^ i * g)
shared i k x y g odd h =
    subst (λ (m : ℕ). IsGcd (2 ^ i * x) m (2 ^ i * g)) (sym (joined i k y))
    (IsGcd-scaled (2 ^ i) x (2 ^ k * y) g (power_some i) (IsGcd-swap (2 ^ k * y) x g (with_power k y x g odd (IsGcd-swap x y g h))))
  where
    spread : (a b y : ℕ) → a * b * y ≡ a * (b * y)
    spread a b y = omega arith

    joined : (i k y : ℕ) → 2 ^ (i + k) * y ≡ 2 ^ i * (2 ^ k * y)
    joined i k y = ap (λ (m : ℕ). m * y) (pow-add 2 i k) ∙ spread (2 ^ i) (2 ^ k) y

    power_some : (i : ℕ) → 0 < 2 ^ i
    power_some zero = omega arith
    power_some (suc i) = subst (λ (m : ℕ). 0 < m) (sym (pow-suc 2 i)) (omega (arith, power_some i))

both_powers : (i j x y g : ℕ) → x % 2 ≡ 1 → y % 2 ≡ 1 → IsGcd x y g → IsGcd (2 ^ i * x) (2 ^ j * y) (2 ^ min i j * g)
both_powers i j x y g odd_x odd_y h = go (which i j)
  where
    which : (i j : ℕ) → ((min i j ≡ i) × (j ≡ i + (j - i))) ⊎ ((min i j ≡ j) × (i ≡ j + (i - j)))
    which i j = grind arith

    go : ((min i j ≡ i) × (j ≡ i + (j - i))) ⊎ ((min i j ≡ j) × (i ≡ j + (i - j))) → IsGcd (2 ^ i * x) (2 ^ j * y) (2 ^ min i j * g)
    go (inl w) =
        subst (λ (m : ℕ). IsGcd (2 ^ i * x) (2 ^ j * y) (2 ^ m * g)) (sym w.0)
        (subst (λ (m : ℕ). IsGcd (2 ^ i * x) (2 ^ m * y) (2 ^ i * g)) (sym w.1) (shared i (j - i) x y g odd_x h))
    go (inr w) =
        subst (λ (m : ℕ). IsGcd (2 ^ i * x) (2 ^ j * y) (2 ^ m * g)) (sym w.0)
        (IsGcd-swap (2 ^ j * y) (2 ^ i * x) (2 ^ j * g)
        (subst (λ (m : ℕ). IsGcd (2 ^ j * y) (2 ^ m * x) (2 ^ j * g)) (sym w.1) (shared j (i - j) y x g odd_y (IsGcd-swap x y g h))))

-- a and b are products of their odd parts and powers of 2, and z is the greatest common divisor of the odd parts
pub whole_gcd : (a b i j x y z : ℕ) → a ≡ 2 ^ i * x → b ≡ 2 ^ j * y → x % 2 ≡ 1 → y % 2 ≡ 1 → IsGcd x y z → 2 ^ min i j * z ≡ gcd a b
whole_gcd a b i j x y z e f odd_x odd_y h =
    same_from_IsGcd a b _ _
    (subst (λ (m : ℕ). IsGcd m b (2 ^ min i j * z)) (sym e) (subst (λ (m : ℕ). IsGcd (2 ^ i * x) m (2 ^ min i j * z)) (sym f) (both_powers i j x y z odd_x odd_y h)))
    (IsGcd-gcd a b)

pub shifted_back : (a b t m z : ℕ) → m ≡ t → 2 ^ t * z ≡ gcd a b → 0 < b → b < 18446744073709551616 → z * 2 ^ m % 18446744073709551616 ≡ gcd a b
shifted_back a b t m z n e some fits =
    ap (λ (k : ℕ). k % 18446744073709551616) (ap (λ (k : ℕ). z * 2 ^ k) n ∙ mul_comm z (2 ^ t) ∙ e) ∙ mod-eq_of_lt (omega (arith, gcd-le a b some, fits))

-- ---- the cases that both numbers are equal, and that one is 0 or divides the other
pub same_number : (a b x y : ℕ) → x ≡ y → ((g : ℕ) → IsGcd x y g → IsGcd a b g) → x ≡ gcd a b
same_number a b x y e f = same_from_IsGcd a b _ _ (f x (subst (λ (m : ℕ). IsGcd x m x) e (dvd_refl x, dvd_refl x, λ d u v. u))) (IsGcd-gcd a b)

pub gcd_right_zero : (a b : ℕ) → b ≡ 0 → a ≡ gcd a b
gcd_right_zero a b e = same_from_IsGcd a b _ _ (IsGcd-from_zero a b e) (IsGcd-gcd a b)

pub gcd_divides : (a b : ℕ) → a % b ≡ 0 → b ≡ gcd a b
gcd_divides a b e = same_from_IsGcd a b _ _ (IsGcd-from_mod a b b (IsGcd-from_zero b (a % b) e)) (IsGcd-gcd a b)
