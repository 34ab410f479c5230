-- A slack that moves towards 0 changes, and a number above 0 is not 0.
use Rattle.std.proofs.Common.{◌≡◌, ◌≢◌, Bool, true, false, ◌&&◌, sym, ap, refl, ◌∙◌, ◌||◌}
use Rattle.nf_rational_laws.proofs.Common.{and_parts, and_from, ℚ, 0ℚ, le_ℚ, lt_ℚ}
use Rattle.nf_rational_laws.proofs.Tests.{le_of_test, test_of_le, not_less_itself}
use Rattle.nf_rational.specs.Signs.{is_positive, are_opposite, is_same, is_zero}
use Rattle.nf_rational_laws.proofs.Order.{≤ℚ_of_same, ≤ℚ_antisymm}

neither : (a b c d : Bool) → c ≡ false → d ≡ false → ((a && c) || (b && d)) ≡ true → ⊥
neither true true false false p q e = cc
neither true false false false p q e = cc
neither false true false false p q e = cc
neither false false false false p q e = cc
neither a b true d p q e = cc
neither a b false true p q e = cc

pub opposite_apart : (x y : ℚ) → are_opposite x y ≡ true → y ≢ 0ℚ
opposite_apart x y e same = neither (lt_ℚ x 0ℚ) (lt_ℚ 0ℚ x) (lt_ℚ 0ℚ y) (lt_ℚ y 0ℚ)
    (ap (λ (z : ℚ). lt_ℚ 0ℚ z) same ∙ not_less_itself 0ℚ) (ap (λ (z : ℚ). lt_ℚ z 0ℚ) same ∙ not_less_itself 0ℚ) e

pub positive_apart : (x : ℚ) → is_positive x ≡ true → x ≢ 0ℚ
positive_apart x e same = let f : lt_ℚ 0ℚ x ≡ false = ap (λ (z : ℚ). lt_ℚ 0ℚ z) same ∙ not_less_itself 0ℚ in cc

-- ---- the test whether two numbers are equal
pub same_of_test : (x y : ℚ) → is_same x y ≡ true → x ≡ y
same_of_test x y e = let both : (le_ℚ x y ≡ true) × (le_ℚ y x ≡ true) = and_parts (le_ℚ x y) (le_ℚ y x) e in ≤ℚ_antisymm x y (le_of_test x y both.0) (le_of_test y x both.1)

pub zero_of_test : (x : ℚ) → is_zero x ≡ true → x ≡ 0ℚ
zero_of_test x e = same_of_test x 0ℚ e

pub test_of_same : (x y : ℚ) → x ≡ y → is_same x y ≡ true
test_of_same x y e = and_from (le_ℚ x y) (le_ℚ y x) (test_of_le x y (≤ℚ_of_same x y e)) (test_of_le y x (≤ℚ_of_same y x (sym e)))

pub is_same-itself : (x : ℚ) → is_same x x ≡ true
is_same-itself x = test_of_same x x refl
