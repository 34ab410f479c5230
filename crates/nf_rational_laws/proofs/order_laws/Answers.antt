use Rattle.std.proofs.Common.{[], ◌∷◌}
use Rattle.nf_rational_laws.proofs.Common.{ℚ, 0ℚ, ◌+ℚ◌, ◌-ℚ◌, ◌*ℚ◌, ◌<ℚ◌}
use Rattle.nf_rational_laws.proofs.Polynomial.{reading_of}
use Rattle.nf_rational_laws.proofs.Order.{≤ℚ_antisymm, ≤ℚ_of_lt, lt_or_le_ℚ, not_both_ℚ, less_ps, ps_times}
use Rattle.nf_rational_laws.proofs.Linear.{lt, linear_lt}
use Rattle.nf_rational_laws.proofs.Chains.{≤ℚ_refl, ≤ℚ_trans}
use Rattle.nf_rational_laws.proofs.order_laws.Goals as goal

sums_keep : (x y z : ℚ) → x <ℚ y → x +ℚ z <ℚ y +ℚ z
sums_keep x y z h = linear_lt (x ∷ y ∷ z ∷ []) (lt h ∷ []) (search reading_of) tt

products_keep : (x y z : ℚ) → 0ℚ <ℚ z → x <ℚ y → x *ℚ z <ℚ y *ℚ z
products_keep x y z h k =
    let p : 0ℚ <ℚ (y -ℚ x) *ℚ z = ps_times _ _ (less_ps x y k) h in
    linear_lt (x ∷ y ∷ z ∷ []) (lt p ∷ []) (search reading_of) tt

pub returns : goal.returns
returns c = record {
  reflexive = ≤ℚ_refl;
  transitive = ≤ℚ_trans;
  antisymmetric = ≤ℚ_antisymm;
  total = lt_or_le_ℚ;
  apart = not_both_ℚ;
  weaker = ≤ℚ_of_lt;
  sums_keep = sums_keep;
  products_keep = products_keep;
}
