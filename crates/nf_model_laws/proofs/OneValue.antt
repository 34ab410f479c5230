-- Least and greatest values that are stated as relations are at most one each.
use Rattle.std.proofs.Common.{◌≡◌, ℕ, List, [], ◌∷◌, inl, inr, sym, ap, subst, ◌∙◌}
use Rattle.nf_model_laws.proofs.Common.{ℚ, 1ℚ, ◌+ℚ◌, ◌-ℚ◌, ◌≤ℚ◌, ◌<ℚ◌, min_ℚ, reading_of, ≤ℚ_antisymm, not_both_ℚ, linear_lt, nn_plus_one, Hop, IsLeastTransit}
use Rattle.nf_model_laws.proofs.Common.{Network, IsEarliest}
use Rattle.nf_model.specs.Phases.{IsExtension, IsUnending, IsPhaseLength}

pub IsLeastTransit-unique : (hops : List Hop) (v w : ℕ) (y z : ℚ) → IsLeastTransit hops v w y → IsLeastTransit hops v w z → y ≡ z
IsLeastTransit-unique hops v w y z p q = ≤ℚ_antisymm y z (at_most y z p q) (at_most z y q p)
  where
    at_most : (y z : ℚ) → IsLeastTransit hops v w y → IsLeastTransit hops v w z → y ≤ℚ z
    at_most y z p q = subst (λ (x : ℚ). y ≤ℚ x) q.taken.2 (p.bound q.taken.0 q.taken.1)

pub IsEarliest-unique : (net : Network) (amount : ℕ → ℚ → ℚ) (v : ℕ) (departure y z : ℚ) → IsEarliest net amount v departure y → IsEarliest net amount v departure z → y ≡ z
IsEarliest-unique net amount v departure y z p q = ≤ℚ_antisymm y z (p.least q.taken.0 z q.taken.1 q.taken.2) (q.least p.taken.0 y p.taken.1 p.taken.2)

pub IsExtension-unique : (net : Network) (slacks slopes : List ℚ) (time y z : ℚ) → IsExtension net slacks slopes time y → IsExtension net slacks slopes time z → y ≡ z
IsExtension-unique net slacks slopes time y z p q = ≤ℚ_antisymm y z (q.greatest y p.lasts) (p.greatest z q.lasts)

one_more : (y : ℚ) → y <ℚ y +ℚ 1ℚ
one_more y = linear_lt (y ∷ []) [] (search reading_of) tt

-- where a phase may last for any length there is no extension length
pub IsExtension-ends : (net : Network) (slacks slopes : List ℚ) (time y : ℚ) → IsExtension net slacks slopes time y → IsUnending net slacks slopes time → ⊥
IsExtension-ends net slacks slopes time y p u = not_both_ℚ y (y +ℚ 1ℚ) (one_more y) (p.greatest (y +ℚ 1ℚ) (u (y +ℚ 1ℚ) (nn_plus_one y p.lasts.not_negative)))

pub IsPhaseLength-unique : (net : Network) (slacks slopes : List ℚ) (time horizon y z : ℚ) → IsPhaseLength net slacks slopes time horizon y
    → IsPhaseLength net slacks slopes time horizon z → y ≡ z
IsPhaseLength-unique net slacks slopes time horizon y z (inl p) (inl q) = p.2 ∙ ap (min_ℚ (horizon -ℚ time)) (IsExtension-unique net slacks slopes time p.0 q.0 p.1 q.1) ∙ sym q.2
IsPhaseLength-unique net slacks slopes time horizon y z (inl p) (inr q) = absurd (IsExtension-ends net slacks slopes time p.0 p.1 q.0)
IsPhaseLength-unique net slacks slopes time horizon y z (inr p) (inl q) = absurd (IsExtension-ends net slacks slopes time q.0 q.1 p.0)
IsPhaseLength-unique net slacks slopes time horizon y z (inr p) (inr q) = p.1 ∙ sym q.1
