-- The last point of a curve, and times that come after it.
use Rattle.std.proofs.Common.{◌≡◌, ⊎_elim, ℕ, zero, suc, ◌+◌, ◌<◌, true, false, List, [], ◌∷◌, length, Option, Some, None, refl, sym, ap, subst, ◌∙◌, arith}
use Rattle.std.proofs.Common.{slice_get}
use Rattle.nf_report_lines.proofs.Common.{last_or, ℚ, 0ℚ, ◌<ℚ◌, lt_ℚ, is_same, comes_after}
use Rattle.nf_rational_laws.proofs.Tests.{less_of_test}
use Rattle.nf_model.specs.Curve.{Point}
use Rattle.nf_curve.specs.Points.{last_time}
use Rattle.nf_curve_laws.proofs.Operations.{is_same_cases}

last_from : (o : Option Point) (points : List Point) (k : ℕ) (p : Point) → slice_get points k ≡ Some p → length points ≡ k + 1 → last_or o points ≡ Some p
last_from o [] k p e many = absurd (omega arith)
last_from o (x ∷ []) zero p e many = e
last_from o (x ∷ y ∷ rest) zero p e many = absurd (omega arith)
last_from o (x ∷ rest) (suc k) p e many = last_from (Some x) rest k p e (omega arith)

pub later_than_last : (points : List Point) (k : ℕ) (p : Point) (time : ℚ) → slice_get points k ≡ Some p → length points ≡ k + 1 → lt_ℚ p.0 time ≡ comes_after (last_or None points) time
later_than_last points k p time e many = sym (ap (λ (o : Option Point). comes_after o time) (last_from None points k p e many))

last_there : (o : Option Point) (points : List Point) → 0 < length points → (p : Point) × (last_or o points ≡ Some p) × (last_time points ≡ p.0)
last_there o [] some = absurd (omega arith)
last_there o (x ∷ []) some = (x, refl, refl)
last_there o (x ∷ y ∷ rest) some = last_there (Some x) (y ∷ rest) (omega arith)

pub time_is_later : (points : List Point) (time : ℚ) → 0 < length points → comes_after (last_or None points) time ≡ true → last_time points <ℚ time
time_is_later points time some e =
    let there = last_there None points some in
    subst (λ (t : ℚ). t <ℚ time) (sym there.2) (less_of_test there.0.0 time (ap (λ (o : Option Point). comes_after o time) (sym there.1) ∙ e))

pub starts_at_0 : (time : ℚ) → comes_after None time ≡ true → time ≡ 0ℚ
starts_at_0 time e = ⊎_elim
    (λ (w : (is_same time 0ℚ ≡ true) × (time ≡ 0ℚ)). w.1)
    (λ (w : (is_same time 0ℚ ≡ false) × (¬ (time ≡ 0ℚ))). absurd (cc))
    (is_same_cases time 0ℚ)
