-- The names that most proofs of this crate cite, passed on from one place. Declares nothing.
pub use Rattle.nf_curve_laws.proofs.Following.{FollowsFrom, ends, follows-point, goes, value-follows_past}
pub use Rattle.nf_curve_laws.proofs.Operations.{checked-is, checked_line-is, checked_slope-is, is_same_cases, then_ok}
pub use Rattle.nf_frac_def.specs.Checked.{Checked, checked, each, ◌>>=◌}
pub use Rattle.nf_frac_def.specs.Passing.{Passing}
pub use Rattle.nf_frac_def.specs.declared.Op.TheVariants.{Difference, Product, Quotient, Sum}
pub use Rattle.nf_load_def.specs.Loading.{Loaded}
pub use Rattle.nf_load_def.specs.Meanings.{AreLoaded, IsCumulative, IsLinkLoaded, IsLoaded}
pub use Rattle.nf_model.specs.Curve.{IsCurve, NeverFalls, Point, Within, slope, value}
pub use Rattle.nf_model.specs.Queue.{IsExit, IsOutflow, IsQueue, waiting}
pub use Rattle.nf_model_laws.proofs.Affine.{IsAffine-part, quotient-times, same_from_times}
pub use Rattle.nf_model_laws.proofs.Curves.{NeverFalls-value, line_takes, slope-unique}
pub use Rattle.nf_model_laws.proofs.Queues.{IsExit-after, IsExit-monotone, IsOutflow-early, IsOutflow-unique, IsQueue-nn, IsQueue-unique}
pub use Rattle.nf_model_laws.specs.Affine.{IsAffine}
pub use Rattle.nf_model_laws.specs.Capacity.{IsPositive}
pub use Rattle.nf_rational.specs.Operations.{0ℚ, 1ℚ, ◌*ℚ◌, ◌+ℚ◌, ◌-ℚ◌, ◌/ℚ◌}
pub use Rattle.nf_rational.specs.Order.{le_ℚ, lt_ℚ, max_ℚ, min_ℚ, ◌<ℚ◌, ◌≤ℚ◌}
pub use Rattle.nf_rational.specs.Rational.{ℚ}
pub use Rattle.nf_rational.specs.Signs.{is_positive, is_same, is_zero}
pub use Rattle.nf_rational_laws.proofs.Chains.{≤ℚ_refl, ≤ℚ_trans}
pub use Rattle.nf_rational_laws.proofs.Linear.{eq, eq_times, le, le_times, linear_eq, linear_false, linear_le, linear_lt, lt}
pub use Rattle.nf_rational_laws.proofs.Order.{less_nn, lt_or_le_ℚ, nn_plus, not_both_ℚ, ≤ℚ_antisymm, ≤ℚ_of_lt, ≤ℚ_of_same}
pub use Rattle.nf_rational_laws.proofs.Polynomial.{reading_of}
pub use Rattle.nf_rational_laws.proofs.Results.{same_Ok}
