-- The names that most proofs of this crate cite, passed on from one place. Declares nothing.
pub use Rattle.nf_curve.proofs.Exits.{after_err, after_ok, each_ends, each_goes, each_stops, front_err, front_more, stops_on, was_ok}
pub use Rattle.nf_curve.proofs.Pieces.{run_apart}
pub use Rattle.nf_curve.proofs.Shortening.{begin_goes, begin_stops, short_alone, short_ends, short_from, step_goes, step_stops}
pub use Rattle.nf_curve_def.specs.Lines.{checked_line, checked_slope}
pub use Rattle.nf_curve_def.specs.Short.{checked_short}
pub use Rattle.nf_curve_def.specs.Values.{checked_cut, checked_value, points_before}
pub use Rattle.nf_curve_laws.proofs.Operations.{apart_of, checked-is, is_same_cases, same_of, same_test, then_ok}
pub use Rattle.nf_frac.specs.Parts.{IsWithin, SumFits}
pub use Rattle.nf_frac_def.proofs.Each.{with_front}
pub use Rattle.nf_frac_def.specs.Checked.{Checked, Gives, at_part, checked, each, ◌>>=◌}
pub use Rattle.nf_frac_def.specs.Passing.{Passing, bound_of, is_wide, passes_Q}
pub use Rattle.nf_frac_def.specs.declared.Op.TheVariants.{Difference, Product, Quotient, Sum}
pub use Rattle.nf_frac_def.specs.declared.Part.{Part}
pub use Rattle.nf_frac_def.specs.declared.Part.TheVariants.{Load}
pub use Rattle.nf_frac_def.specs.declared.PassedAt.{PassedAt}
pub use Rattle.nf_load.specs.Entries.{HasLink, seen_entry}
pub use Rattle.nf_load.specs.InSteps.{AreLoadCurves, LeadsToCurves, behind_cut, in_short_form, moments_of, until_transit}
pub use Rattle.nf_load.specs.Leaving.{AreExitsOf, AreLeaving, AreTwoExits, IsBusy, IsLeaving, IsLeavingIf, exit_slope_of, outflow_slope_of}
pub use Rattle.nf_load.specs.Loadings.{before_end, loaded_of, over_list}
pub use Rattle.nf_load.specs.Paces.{ArePaces, IsPace, IsPaceIf, IsPaced, change_of, first_waits, grown_by, level_over, over_paces, paces_to}
pub use Rattle.nf_load.specs.Rates.{AreRates, IsRate, rate_after_0, rate_if_after_0}
pub use Rattle.nf_load.specs.Slopes.{Along, AreKnownSlopes, flat}
pub use Rattle.nf_load.specs.declared.entry.Entry.{Entry}
pub use Rattle.nf_load.specs.declared.loading.Loaded.{Loaded}
pub use Rattle.nf_load.specs.declared.waiting.Over.{Over}
pub use Rattle.nf_load.specs.declared.waits.Leaving.{Leaving}
pub use Rattle.nf_load.specs.declared.waits.Pace.{Pace}
pub use Rattle.nf_load_def.specs.Cumulative.{checked_cumulative, cumulative_from, piece_end, point_after_0, point_if_after_0, with_piece}
pub use Rattle.nf_load_def.specs.Loading.{Exit, Waits, after_piece, all_waits, checked_loading, exit_of, exit_point, last_of, moves, outflow_from}
pub use Rattle.nf_load_def.specs.Loading.{outflow_points, queue_point, stays_or_moves, waits_after}
pub use Rattle.nf_load_def.specs.Meanings.{IsCumulative, IsLoaded}
pub use Rattle.nf_model.specs.Curve.{IsCurve, NeverFalls, Point, TimesRise, value}
pub use Rattle.nf_model.specs.Network.{ArePieces, Piece}
pub use Rattle.nf_model_laws.specs.Capacity.{IsPositive}
pub use Rattle.nf_net.proofs.Limits.{as_many_names}
pub use Rattle.nf_rational.specs.Operations.{0ℚ, 1ℚ, inv_ℚ, neg_ℚ, ◌*ℚ◌, ◌+ℚ◌, ◌-ℚ◌, ◌/ℚ◌}
pub use Rattle.nf_rational.specs.Order.{le_ℚ, lt_ℚ, ◌<ℚ◌, ◌≤ℚ◌}
pub use Rattle.nf_rational.specs.Rational.{gcd_pos, part_pos, parts_reduced, ℚ}
pub use Rattle.nf_rational.specs.Signs.{is_positive, is_same, is_zero}
pub use Rattle.nf_rational_laws.proofs.Entries.{drop_entry}
pub use Rattle.nf_rational_laws.proofs.Field.{+ℚ_idl, one-*ℚ, zero-*ℚ}
pub use Rattle.nf_rational_laws.proofs.IntegerRing.{ints_ring}
pub use Rattle.nf_rational_laws.proofs.Ints.{abs-mul, abs-neg, cancel}
pub use Rattle.nf_rational_laws.proofs.Linear.{eq, eq_times, le, linear_eq, linear_false, linear_le, lt}
pub use Rattle.nf_rational_laws.proofs.Order.{not_both_ℚ, zero_den, zero_num, ≤ℚ_of_lt, ≤ℚ_of_same}
pub use Rattle.nf_rational_laws.proofs.Polynomial.{combine, done, reading, reading_of, using}
pub use Rattle.nf_rational_laws.proofs.Quotient.{/ℚ-times, /ℚ-unique, /ℚ_is}
pub use Rattle.nf_rational_laws.proofs.Results.{same_Ok}
pub use Rattle.nf_rational_laws.proofs.Tests.{less_of_test, lt_ℚ_cases, not_less_of_test}
pub use Rattle.nf_report_def.specs.LoadsFile.{LoadsBroken, LoadsDraft, if_ended, load_after, load_rule_of, loads_frame, loads_in, pieces_at, rule_behind}
pub use Rattle.nf_side.proofs.Frame.{broken_more, file_closed}
pub use Rattle.std.proofs.lemmas.Bool.{true≢false}
pub use Rattle.std.proofs.lemmas.List.{at_drop_more, drop_all, length-replicate, length_push, replicate_more, take_rest}
pub use Rattle.std.proofs.lemmas.Option.{none-some, same_Some, slice_get_read}
pub use Rattle.std.proofs.lemmas.Result.{err_from_is_err_and}
pub use Rattle.std.proofs.lemmas.Simd.{map-map, splat_is_map}
