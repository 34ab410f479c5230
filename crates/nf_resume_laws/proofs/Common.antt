-- The names that most proofs of this crate cite, passed on from one place. Declares nothing.
pub use Rattle.nf_curve_def.specs.Short.{checked_slopes, turning}
pub use Rattle.nf_curve_laws.proofs.Operations.{is_same_cases, then_ok}
pub use Rattle.nf_curve_laws.proofs.Short.{SlopesFrom, checked_short-is, slopes-are}
pub use Rattle.nf_frac_def.specs.Checked.{Checked, at_part, each, ◌>>=◌}
pub use Rattle.nf_frac_def.specs.Passing.{Passing}
pub use Rattle.nf_model.specs.Curve.{AreSlopes, IsCurve, IsShort, NeverFalls, Point, Within, slope, value}
pub use Rattle.nf_model.specs.Entries.{Has, number_at}
pub use Rattle.nf_model.specs.Equilibrium.{Equilibrium, Flow, HasShape, HasSlopes, Trace, inflow, label, outflow, points_at, points_of, queue}
pub use Rattle.nf_model.specs.Network.{IsLink, IsNetwork, Link, Network, hop_of, hops, sum_in, sum_out, unbounded}
pub use Rattle.nf_model.specs.Pattern.{Equation, HasState, Inequality, IsBase, IsListedIn, IsPattern, IsSolution, IsTrail, NeedsState, Pattern, Solves}
pub use Rattle.nf_model.specs.Phases.{IsExtension, Lasts, moved, slack_after}
pub use Rattle.nf_model.specs.ThinFlow.{Sets, sets_at, slack, slacks_of}
pub use Rattle.nf_model.specs.declared.State.{State}
pub use Rattle.nf_model_laws.proofs.Slacks.{active_of_slack, resetting_of_slack, slack_after-moved, slack_at, slack_of_active, slack_of_resetting}
pub use Rattle.nf_model_laws.specs.EarliestLaws.{InflowsRise}
pub use Rattle.nf_phase_def.specs.Open.{IsOpen, RunsOn, Steps, at_horizon, at_phases, begins, continues, fails, steps}
pub use Rattle.nf_phase_def.specs.Restoring.{EndsAtItsLabels, value_at_end}
pub use Rattle.nf_phase_equilibrium_laws.proofs.Printed.{label-nn, rises-link}
pub use Rattle.nf_phase_laws.proofs.Holds.{IsNashFlow-from_HoldsUpTo, label_not_negative, link_within, sent-is}
pub use Rattle.nf_phase_laws.proofs.Length.{IsPhase-some, Lasts-some}
pub use Rattle.nf_phase_laws.proofs.RunsOn.{WellRun-step, closed-at_start}
pub use Rattle.nf_phase_laws.proofs.WellRun.{WellRun, points_is}
pub use Rattle.nf_phase_laws.specs.CurveSteps.{CurvesGoOn, LastPoint, at}
pub use Rattle.nf_phase_laws.specs.Description.{DescribesLinks}
pub use Rattle.nf_phase_laws.specs.Invariant.{HoldsUpTo, link_slack, queue_by_slack, sent}
pub use Rattle.nf_rational.specs.Operations.{0ℚ, ◌*ℚ◌, ◌+ℚ◌, ◌-ℚ◌}
pub use Rattle.nf_rational.specs.Order.{◌<ℚ◌, ◌≤ℚ◌}
pub use Rattle.nf_rational.specs.Rational.{ℚ}
pub use Rattle.nf_rational.specs.Signs.{is_positive, is_same}
pub use Rattle.nf_rational_laws.proofs.Chains.{≤ℚ_refl, ≤ℚ_trans}
pub use Rattle.nf_rational_laws.proofs.Entries.{entry, slice_get-image}
pub use Rattle.nf_rational_laws.proofs.Facts.{above_between, back_and_forth, below_between, gap_np, in_time, same_slacks}
pub use Rattle.nf_rational_laws.proofs.Linear.{eq, eq_times, le, le_times, linear_eq, linear_false, linear_le, linear_lt, lt}
pub use Rattle.nf_rational_laws.proofs.Order.{less_nn, lt_or_le_ℚ, not_both_ℚ, ≤ℚ_antisymm, ≤ℚ_of_lt, ≤ℚ_of_same}
pub use Rattle.nf_rational_laws.proofs.Polynomial.{reading_of}
pub use Rattle.nf_rational_laws.proofs.Results.{same_Ok}
pub use Rattle.nf_resume_def.specs.Meanings.{GoesOnFrom, IsResumedReport}
pub use Rattle.nf_resume_def.specs.Resuming.{CutLink, OfLink, Restart, Stands, after_check, cut_flow, cut_flow_of, cut_link, cut_short, cut_trace}
pub use Rattle.nf_resume_def.specs.Resuming.{links_with}
pub use Rattle.nf_thin_def.specs.CurveList.{LinkStep, QueueStep, curve_list, is_filled, link_phase}
pub use Rattle.nf_thin_def.specs.PhaseRun.{Bounds, Goes, IsShortFlow, Standing, flow_of, standing_after}
pub use Rattle.nf_thin_def.specs.ReportCurves.{GrowingCurve, LinkCurves, curve_with, curves_after, keeps_slope, label_curves_after, link_curves_after}
pub use Rattle.nf_thin_def.specs.ReportCurves.{queue_curve_after, trace_after, trace_with, with_point, with_rate}
pub use Rattle.std.proofs.lemmas.List.{length-map}
pub use Rattle.std.proofs.lemmas.Option.{same_Some, slice_get_within}
