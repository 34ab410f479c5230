-- The names that most proofs of this crate cite, passed on from one place. Declares nothing.
pub use Rattle.nf_curve.proofs.Exits.{after_err, after_ok, each_ends, each_goes, each_stops, err_before, front_none, ok_before, stops_on}
pub use Rattle.nf_curve.specs.Flows.{seen_flow, seen_trace}
pub use Rattle.nf_curve.specs.Points.{Grown, last_time}
pub use Rattle.nf_curve_def.specs.Lines.{checked_slope}
pub use Rattle.nf_frac_def.specs.Checked.{Checked, at_part, checked, each, ◌>>=◌}
pub use Rattle.nf_frac_def.specs.Passing.{Passing, passes_Q}
pub use Rattle.nf_frac_def.specs.declared.Part.TheVariants.{Curve}
pub use Rattle.nf_frac_def.specs.declared.PassedAt.{PassedAt}
pub use Rattle.nf_model.specs.Curve.{AreSlopes, IsCurve, Point, TimesRise}
pub use Rattle.nf_model.specs.Entries.{number_at}
pub use Rattle.nf_model.specs.Equilibrium.{Flow, Trace}
pub use Rattle.nf_model.specs.Network.{IsLink, Link, Network}
pub use Rattle.nf_pattern.proofs.Each.{take_pushed}
pub use Rattle.nf_phase_curves.specs.Flows.{flow_so_far, with_link}
pub use Rattle.nf_phase_curves.specs.Growing.{AllHaveRoom, AreBefore, HasReserve, IsAfter, Roomy, all_grown, corners_by, end_value, points_to, rates_by}
pub use Rattle.nf_phase_curves.specs.Restoring.{of_link, of_links}
pub use Rattle.nf_phase_curves.specs.declared.growing.End.{End}
pub use Rattle.nf_phase_def.specs.Restoring.{growing, last_slope, link_curves_of}
pub use Rattle.nf_phase_laws.proofs.AfterPhase.{label_after-length, label_after_at, link_after-length, link_after_at}
pub use Rattle.nf_rational.specs.Operations.{0ℚ}
pub use Rattle.nf_rational.specs.Order.{lt_ℚ, ◌<ℚ◌, ◌≤ℚ◌}
pub use Rattle.nf_rational.specs.Rational.{ℚ}
pub use Rattle.nf_rational.specs.Signs.{is_positive}
pub use Rattle.nf_rational_laws.proofs.Entries.{drop_entry, entry, last-append, slice_get-image}
pub use Rattle.nf_rational_laws.proofs.SignTests.{positive_apart, same_of_test}
pub use Rattle.nf_thin_def.specs.CurveList.{LinkPhase, LinkStep, QueueStep, link_phase, link_step, queue_step, rate_over, size_at, slope_at}
pub use Rattle.nf_thin_def.specs.Ends.{time_of_last}
pub use Rattle.nf_thin_def.specs.ReportCurves.{GrowingCurve, LinkCurves, amount_so_far, curve_with, first_curves, first_label_curve, first_queue}
pub use Rattle.nf_thin_def.specs.ReportCurves.{first_trace, keeps_slope, label_curves_after, link_curves_after, queue_curve_after, trace_after, trace_with}
pub use Rattle.nf_thin_def.specs.ReportCurves.{with_point, with_rate}
pub use Rattle.nf_thin_laws.proofs.Numbered.{SoFar, all_done, one_more, one_passes}
pub use Rattle.std.proofs.lemmas.List.{length-map, map-append, take_all}
pub use Rattle.std.proofs.lemmas.Option.{none-some, same_Some, slice_get-get_or, slice_get-map, slice_get_read, slice_get_within}
pub use Rattle.std.proofs.lemmas.Result.{IfOk-from_err, IfOk-weaker, err_from_is_err_and, on_ok_weaker}
pub use Rattle.std.specs.List.{enumerate_from, last_or}
pub use Rattle.std.specs.Option.{option_map, option_map_or, option_to_list}
