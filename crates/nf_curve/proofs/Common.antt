-- The names that most proofs of this crate cite, passed on from one place. Declares nothing.
pub use Rattle.nf_curve.specs.Moments.{IsMoment, IsThere, only_before, times_left}
pub use Rattle.nf_curve.specs.Places.{ComesNext, count_until, earlier_of, points_after, times_after, value_between}
pub use Rattle.nf_curve.specs.Points.{Grown, last_time}
pub use Rattle.nf_curve.specs.Sides.{sides_of}
pub use Rattle.nf_curve.specs.Slopes.{KeepBoth, KeepsSlope}
pub use Rattle.nf_curve.specs.Steps.{behind, difference_step, lesser_step, turn_between}
pub use Rattle.nf_curve.specs.declared.walk.Moment.{Moment}
pub use Rattle.nf_curve_def.specs.Composed.{checked_composed, composed_all, composed_piece, corner_at, points_along, points_between}
pub use Rattle.nf_curve_def.specs.Differences.{checked_difference, checked_turn, differ_at, difference_from, difference_here, do_differ, if_differ}
pub use Rattle.nf_curve_def.specs.Differences.{times_before, turn_at, turns_from}
pub use Rattle.nf_curve_def.specs.Least.{checked_least, crossing, is_crossed, least_after, least_from, least_point}
pub use Rattle.nf_curve_def.specs.Lines.{Sides, checked_cross, checked_line, checked_slope}
pub use Rattle.nf_curve_def.specs.Short.{checked_short, checked_slopes, turning}
pub use Rattle.nf_curve_def.specs.Sums.{checked_sum, sides_at, sum_at}
pub use Rattle.nf_curve_def.specs.Times.{both_times, merged, times_of}
pub use Rattle.nf_curve_def.specs.Values.{checked_cut, checked_value, points_before, value_from}
pub use Rattle.nf_curve_laws.proofs.Composed.{checked_composed-is, rise_rest}
pub use Rattle.nf_curve_laws.proofs.Least.{Crossing, checked_least-is, falls, is_crossed-is, left_below, right_below, rises}
pub use Rattle.nf_curve_laws.proofs.Operations.{checked-is, checked_slope-is, is_same_cases, same_of}
pub use Rattle.nf_curve_laws.proofs.Values.{checked_cut-each, checked_cut-values, checked_value-is}
pub use Rattle.nf_frac_def.proofs.Each.{each_err, each_ok, with_front}
pub use Rattle.nf_frac_def.specs.Checked.{Checked, Stops, at_part, checked, each, ◌>>=◌}
pub use Rattle.nf_frac_def.specs.Passing.{Passing, passes_Q}
pub use Rattle.nf_frac_def.specs.declared.Op.TheVariants.{Difference, Sum}
pub use Rattle.nf_frac_def.specs.declared.Part.{Part}
pub use Rattle.nf_frac_def.specs.declared.Passed.{Passed}
pub use Rattle.nf_frac_def.specs.declared.PassedAt.{PassedAt}
pub use Rattle.nf_model.specs.Curve.{IsCurve, Point, TimesRise, slope, value}
pub use Rattle.nf_model_laws.proofs.Affine.{<_≤_trans}
pub use Rattle.nf_rational.specs.Operations.{0ℚ, ◌*ℚ◌, ◌-ℚ◌}
pub use Rattle.nf_rational.specs.Order.{cmp_ℚ, lt_ℚ, min_ℚ, ◌<ℚ◌, ◌≤ℚ◌}
pub use Rattle.nf_rational.specs.Rational.{ℚ}
pub use Rattle.nf_rational.specs.Signs.{is_same}
pub use Rattle.nf_rational_laws.proofs.Chains.{≤_<_trans, ≤ℚ_refl, ≤ℚ_trans}
pub use Rattle.nf_rational_laws.proofs.Entries.{drop_entry}
pub use Rattle.nf_rational_laws.proofs.Order.{<ℚ_irrefl, lt_or_le_ℚ, not_both_ℚ, ≤ℚ_antisymm, ≤ℚ_of_lt, ≤ℚ_of_same}
pub use Rattle.nf_rational_laws.proofs.Tests.{less_of_test, lt_ℚ_cases, not_less_itself, test_of_less, test_of_not_less}
pub use Rattle.std.proofs.lemmas.List.{at_drop_all, reverse-append}
pub use Rattle.std.proofs.lemmas.Option.{none-some, same_Some, slice_get-get_or, slice_get_past, slice_get_read}
pub use Rattle.std.proofs.lemmas.Result.{err_from_is_err_and}
pub use Rattle.std.specs.List.{filter}
