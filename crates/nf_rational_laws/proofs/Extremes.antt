-- The lesser and the greater of two numbers.
use Rattle.std.proofs.Common.{◌≡◌, ⊎_elim, sym, subst, ◌∙◌}
use Rattle.nf_rational_laws.proofs.Common.{ℚ, ◌≤ℚ◌, ◌<ℚ◌, min_ℚ, max_ℚ}
use Rattle.nf_rational_laws.proofs.Order.{≤ℚ_of_lt, ≤ℚ_of_same, ≤ℚ_antisymm, not_both_ℚ}
use Rattle.nf_rational_laws.proofs.Tests.{min_ℚ_cases, max_ℚ_cases}

-- ---- a property of both numbers holds for the one chosen
pub min_keeps : (P : ℚ → Type 0) (x y : ℚ) → P x → P y → P (min_ℚ x y)
min_keeps P x y p q = ⊎_elim
    (λ (w : (min_ℚ x y ≡ x) × (x ≤ℚ y)). subst P (sym w.0) p)
    (λ (w : (min_ℚ x y ≡ y) × (y <ℚ x)). subst P (sym w.0) q)
    (min_ℚ_cases x y)

pub max_keeps : (P : ℚ → Type 0) (x y : ℚ) → P x → P y → P (max_ℚ x y)
max_keeps P x y p q = ⊎_elim
    (λ (w : (max_ℚ x y ≡ y) × (x ≤ℚ y)). subst P (sym w.0) q)
    (λ (w : (max_ℚ x y ≡ x) × (y <ℚ x)). subst P (sym w.0) p)
    (max_ℚ_cases x y)

-- ---- the lesser is at most each, the greater at least
pub min_left : (x y : ℚ) → min_ℚ x y ≤ℚ x
min_left x y = ⊎_elim
    (λ (w : (min_ℚ x y ≡ x) × (x ≤ℚ y)). ≤ℚ_of_same _ _ w.0)
    (λ (w : (min_ℚ x y ≡ y) × (y <ℚ x)). subst (λ (z : ℚ). z ≤ℚ x) (sym w.0) (≤ℚ_of_lt _ _ w.1))
    (min_ℚ_cases x y)

pub min_right : (x y : ℚ) → min_ℚ x y ≤ℚ y
min_right x y = ⊎_elim
    (λ (w : (min_ℚ x y ≡ x) × (x ≤ℚ y)). subst (λ (z : ℚ). z ≤ℚ y) (sym w.0) w.1)
    (λ (w : (min_ℚ x y ≡ y) × (y <ℚ x)). ≤ℚ_of_same _ _ w.0)
    (min_ℚ_cases x y)

pub max_left : (x y : ℚ) → x ≤ℚ max_ℚ x y
max_left x y = ⊎_elim
    (λ (w : (max_ℚ x y ≡ y) × (x ≤ℚ y)). subst (λ (z : ℚ). x ≤ℚ z) (sym w.0) w.1)
    (λ (w : (max_ℚ x y ≡ x) × (y <ℚ x)). ≤ℚ_of_same _ _ (sym w.0))
    (max_ℚ_cases x y)

pub max_right : (x y : ℚ) → y ≤ℚ max_ℚ x y
max_right x y = ⊎_elim
    (λ (w : (max_ℚ x y ≡ y) × (x ≤ℚ y)). ≤ℚ_of_same _ _ (sym w.0))
    (λ (w : (max_ℚ x y ≡ x) × (y <ℚ x)). subst (λ (z : ℚ). y ≤ℚ z) (sym w.0) (≤ℚ_of_lt _ _ w.1))
    (max_ℚ_cases x y)

-- ---- which one it is, by their order
pub min_is_left : (x y : ℚ) → x ≤ℚ y → min_ℚ x y ≡ x
min_is_left x y h = ⊎_elim
    (λ (w : (min_ℚ x y ≡ x) × (x ≤ℚ y)). w.0)
    (λ (w : (min_ℚ x y ≡ y) × (y <ℚ x)). absurd (not_both_ℚ _ _ w.1 h))
    (min_ℚ_cases x y)

pub min_is_right : (x y : ℚ) → y ≤ℚ x → min_ℚ x y ≡ y
min_is_right x y h = ⊎_elim
    (λ (w : (min_ℚ x y ≡ x) × (x ≤ℚ y)). w.0 ∙ ≤ℚ_antisymm _ _ w.1 h)
    (λ (w : (min_ℚ x y ≡ y) × (y <ℚ x)). w.0)
    (min_ℚ_cases x y)

pub max_is_right : (x y : ℚ) → x ≤ℚ y → max_ℚ x y ≡ y
max_is_right x y h = ⊎_elim
    (λ (w : (max_ℚ x y ≡ y) × (x ≤ℚ y)). w.0)
    (λ (w : (max_ℚ x y ≡ x) × (y <ℚ x)). absurd (not_both_ℚ _ _ w.1 h))
    (max_ℚ_cases x y)

pub max_is_left : (x y : ℚ) → y ≤ℚ x → max_ℚ x y ≡ x
max_is_left x y h = ⊎_elim
    (λ (w : (max_ℚ x y ≡ y) × (x ≤ℚ y)). w.0 ∙ ≤ℚ_antisymm _ _ h w.1)
    (λ (w : (max_ℚ x y ≡ x) × (y <ℚ x)). w.0)
    (max_ℚ_cases x y)
