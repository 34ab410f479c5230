-- No operation on two small values exceeds the widest bound.
use Rattle.std.proofs.Common.{◌≡◌, ◌≢◌, ℕ, sym, ◌∙◌, ap, subst}
use Rattle.nf_frac.proofs.Common.{ℚ, 0ℚ, neg_ℚ, inv_ℚ, ◌+ℚ◌, ◌*ℚ◌, IsWithin, SumFits, short, AreSmall}
use mathlib.Core.Path.{ap₂}
use Rattle.nf_frac.proofs.SmallSums.{sum_fits, product_fits}
use Rattle.nf_frac.proofs.Turned.{neg_within, inv_within}

module _ (b : ℕ) (x y : ℚ) (pair : ℚ × ℚ) (h : AreSmall b x y pair) where
  pub small_sum : (q : ℚ) → q ≡ pair.0 +ℚ pair.1 → SumFits b x y × (q ≡ x +ℚ y)
  small_sum q e = (
    subst (λ (k : ℕ). SumFits k x y) (sym h.widest) (sum_fits x y h.left_small h.right_small),
    e ∙ ap₂ ◌+ℚ◌ h.left h.right,
  )

  pub small_difference : (q n : ℚ) → q ≡ pair.0 +ℚ n → n ≡ neg_ℚ pair.1 → SumFits b x (neg_ℚ y) × (q ≡ x +ℚ neg_ℚ y)
  small_difference q n e f = (
    subst (λ (k : ℕ). SumFits k x (neg_ℚ y)) (sym h.widest) (sum_fits x (neg_ℚ y) h.left_small (neg_within short y h.right_small)),
    e ∙ ap₂ ◌+ℚ◌ h.left (f ∙ ap neg_ℚ h.right),
  )

  pub small_product : (q : ℚ) → q ≡ pair.0 *ℚ pair.1 → IsWithin b (x *ℚ y) × (q ≡ x *ℚ y)
  small_product q e = (
    subst (λ (k : ℕ). IsWithin k (x *ℚ y)) (sym h.widest) (product_fits x y h.left_small h.right_small),
    e ∙ ap₂ ◌*ℚ◌ h.left h.right,
  )

  module _ (some : y ≢ 0ℚ) where
    pub small_quotient : (q n : ℚ) → q ≡ pair.0 *ℚ n → n ≡ inv_ℚ pair.1 → IsWithin b (x *ℚ inv_ℚ y) × (q ≡ x *ℚ inv_ℚ y)
    small_quotient q n e f = (
      subst (λ (k : ℕ). IsWithin k (x *ℚ inv_ℚ y)) (sym h.widest) (product_fits x (inv_ℚ y) h.left_small (inv_within short y some h.right_small)),
      e ∙ ap₂ ◌*ℚ◌ h.left (f ∙ ap inv_ℚ h.right),
    )
