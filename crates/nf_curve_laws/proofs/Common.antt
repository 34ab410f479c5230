-- The names that most proofs of this crate cite, passed on from one place. Declares nothing.
pub use Rattle.nf_curve_def.specs.Lines.{Sides, checked_line, checked_slope}
pub use Rattle.nf_curve_def.specs.Meanings.{DifferFirst, IsComposedOf, IsCutOf, IsDifference, IsLeastOf, IsShortOf, IsSumOf}
pub use Rattle.nf_curve_def.specs.Sums.{sides_at}
pub use Rattle.nf_curve_def.specs.Times.{both_times, times_of}
pub use Rattle.nf_curve_def.specs.Values.{checked_cut, checked_value}
pub use Rattle.nf_frac_def.specs.Checked.{checked, each}
pub use Rattle.nf_frac_def.specs.Passing.{Passing, result_of}
pub use Rattle.nf_frac_def.specs.declared.Op.TheVariants.{Difference, Product, Quotient, Sum}
pub use Rattle.nf_model.specs.Curve.{IsCorner, IsCurve, IsShort, Point, TimesRise, TurnsAt, Within, slope, value}
pub use Rattle.nf_model_laws.proofs.Affine.{IsAffine-composed, IsAffine-less, IsAffine-nn, IsAffine-part, IsAffine-plus, IsAffine-same, line_end, line_start}
pub use Rattle.nf_model_laws.proofs.Curves.{
  IsCurve-rises,
  TimesRise-rest,
  by_first,
  slope-times,
  slope-unique,
  value-after,
  value-before,
  value-first,
  value-line,
  value-merge,
  value-point,
}
pub use Rattle.nf_model_laws.specs.Affine.{IsAffine}
pub use Rattle.nf_rational.specs.Operations.{0ℚ, 1ℚ, ◌*ℚ◌, ◌+ℚ◌, ◌-ℚ◌, ◌/ℚ◌}
pub use Rattle.nf_rational.specs.Order.{lt_ℚ, min_ℚ, ◌<ℚ◌, ◌≤ℚ◌}
pub use Rattle.nf_rational.specs.Rational.{ℚ}
pub use Rattle.nf_rational.specs.Signs.{is_same}
pub use Rattle.nf_rational_laws.proofs.Chains.{<_≤_trans, ≤_<_trans, ≤ℚ_refl, ≤ℚ_trans}
pub use Rattle.nf_rational_laws.proofs.Linear.{eq, eq_times, le, le_times, linear_eq, linear_false, linear_le, linear_lt, lt}
pub use Rattle.nf_rational_laws.proofs.Order.{less_nn, less_ps, lt_or_le_ℚ, not_both_ℚ, ps_times, ≤ℚ_antisymm, ≤ℚ_of_lt, ≤ℚ_of_same}
pub use Rattle.nf_rational_laws.proofs.Polynomial.{reading_of}
pub use Rattle.nf_rational_laws.proofs.Results.{same_Ok}
pub use Rattle.nf_rational_laws.proofs.Tests.{less_of_test, lt_ℚ_cases, not_less_of_test}
