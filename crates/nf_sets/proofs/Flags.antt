-- The flags of slacks make sets.
use Rattle.std.proofs.Common.{◌≡◌, ℕ, zero, suc, List, [], ◌∷◌, length, Bool, true, false, map, ⊎_elim, refl, ap}
use Rattle.std.specs.Prelude.{Some}
use Rattle.nf_rational.specs.Rational.{ℚ}
use Rattle.nf_rational.specs.Operations.{0ℚ}
use Rattle.nf_rational.specs.Order.{le_ℚ, lt_ℚ, ◌≤ℚ◌, ◌<ℚ◌}
use Rattle.nf_rational_laws.proofs.Order.{≤ℚ_of_lt}
use Rattle.nf_rational_laws.proofs.Tests.{test_of_le, lt_ℚ_cases}
use Rattle.nf_model.specs.Entries.{Has}
use Rattle.nf_model.specs.ThinFlow.{sets_of}
use Rattle.nf_graph.specs.Sets.{AreLinkSets}

positive_is_active : (x : ℚ) → lt_ℚ 0ℚ x ≡ true → le_ℚ 0ℚ x ≡ true
positive_is_active x e = ⊎_elim
    (λ (w : (lt_ℚ 0ℚ x ≡ true) × (0ℚ <ℚ x)). test_of_le 0ℚ x (≤ℚ_of_lt 0ℚ x w.1))
    (λ (w : (lt_ℚ 0ℚ x ≡ false) × (x ≤ℚ 0ℚ)). absurd (let f = w.0 in cc))
    (lt_ℚ_cases 0ℚ x)

same_count : (slacks : List ℚ) → length (map (le_ℚ 0ℚ) slacks) ≡ length (map (lt_ℚ 0ℚ) slacks)
same_count [] = refl
same_count (x ∷ slacks) = ap suc (same_count slacks)

same_flag : (b : Bool) → Some b ≡ Some true → b ≡ true
same_flag b e = cc

resetting_is_active : (slacks : List ℚ) (e : ℕ) → Has (map (lt_ℚ 0ℚ) slacks) e → Has (map (le_ℚ 0ℚ) slacks) e
resetting_is_active [] e h = absurd (cc)
resetting_is_active (x ∷ slacks) zero h = ap (λ (b : Bool). Some b) (positive_is_active x (same_flag _ h))
resetting_is_active (x ∷ slacks) (suc e) h = resetting_is_active slacks e h

pub are_sets : (slacks : List ℚ) → AreLinkSets (sets_of slacks)
are_sets slacks = record { count = same_count slacks; active = resetting_is_active slacks }
