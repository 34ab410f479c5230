-- The names that most proofs of this crate cite, passed on from one place. Declares nothing.
pub use Rattle.nf_frac_def.proofs.Binding.{bind_at, bind_ok}
pub use Rattle.nf_frac_def.specs.Checked.{Checked, fold_checked, ◌>>=◌}
pub use Rattle.nf_frac_def.specs.Passing.{Passing, never}
pub use Rattle.nf_model.specs.Curve.{AreSlopes, IsGreatest, IsShort, NeverFalls, Point, Within, slope, value}
pub use Rattle.nf_model.specs.Earliest.{Arrives, IsEarliest}
pub use Rattle.nf_model.specs.Entries.{Has, number_at}
pub use Rattle.nf_model.specs.Equilibrium.{Balances, Equilibrium, Flow, HasShape, HasSlopes, IsNashFlow, Trace, inflow, label, outflow, points_at}
pub use Rattle.nf_model.specs.Equilibrium.{points_of, queue}
pub use Rattle.nf_model.specs.Network.{ArePieces, IsLink, IsNetwork, IsPiece, Link, Network, Piece, first_start, hop_of, hops, next_change, rate_at, sum_in}
pub use Rattle.nf_model.specs.Network.{sum_out, supply, unbounded}
pub use Rattle.nf_model.specs.Pattern.{Equation, Fills, HasState, IsListedIn, IsPattern, Meets, NeedsState, Pattern, Solves}
pub use Rattle.nf_model.specs.Phases.{AreStartLabels, IsExtension, IsPhase, IsPhaseLength, IsPhaseSequence, IsUnending, Lasts, PhasesFrom, slack_after}
pub use Rattle.nf_model.specs.Queue.{IsExit, IsOutflow, IsQueue, waiting}
pub use Rattle.nf_model.specs.ThinFlow.{Enters, IsThinFlow, Sets, exit_slope, exit_slope_at, sets_at, slack, slacks_of}
pub use Rattle.nf_model.specs.Walk.{IsLeastTransit, IsWalk, transit_sum}
pub use Rattle.nf_model_laws.proofs.Affine.{le_from_times, quotient-gap, quotient-times, same_from_times}
pub use Rattle.nf_model_laws.proofs.Curves.{EndsAt, EndsAt-nn, EndsAt-push, EndsAt-push_before, EndsAt-push_line, EndsAt-value, IsCurve-rises}
pub use Rattle.nf_model_laws.proofs.Curves.{TimesRise-rest, by_first, line_takes, slope-times}
pub use Rattle.nf_model_laws.proofs.Earliest.{IsEarliest-label, IsPositive-link}
pub use Rattle.nf_model_laws.proofs.EarliestTransits.{AreTransitLabels-least}
pub use Rattle.nf_model_laws.proofs.Networks.{IsWalk-link, IsWalk-starts, StartsWith, transit_of-is}
pub use Rattle.nf_model_laws.proofs.Queues.{IsExit-after, IsOutflow-early, IsOutflow-from_IsQueue, IsQueue-none, IsQueue-same, IsQueue-unique}
pub use Rattle.nf_model_laws.proofs.Slacks.{active_of_slack, length-moved, moved-at, resetting_of_slack, slack_after-moved, slack_at, slack_of_active}
pub use Rattle.nf_model_laws.proofs.Slacks.{slack_of_resetting}
pub use Rattle.nf_model_laws.proofs.Step.{IsQueue-at_0, IsQueue-step, IsQueue-step_empty}
pub use Rattle.nf_model_laws.proofs.Sums.{sum_in-line, sum_in-none, sum_in-same, sum_in-some, sum_out-each, sum_out-line, sum_out-none, sum_out-same}
pub use Rattle.nf_model_laws.proofs.Supply.{StartsRise, StartsRise-pieces, StartsRise-rest, rate_from-not_negative, supplied-begins, supplied-goes_on}
pub use Rattle.nf_model_laws.proofs.Totals.{IsThinFlow-sink}
pub use Rattle.nf_model_laws.specs.Affine.{IsAffine}
pub use Rattle.nf_model_laws.specs.Capacity.{IsPositive}
pub use Rattle.nf_model_laws.specs.EarliestLaws.{AreLabels, AreTransitLabels}
pub use Rattle.nf_net_def.specs.Report.{Report}
pub use Rattle.nf_net_def.specs.declared.Cause.{Cause}
pub use Rattle.nf_phase_laws.specs.CurveRun.{Curves, FirstCurves, GrowByPhases, begin, curves_of, first_points, grow}
pub use Rattle.nf_phase_laws.specs.CurveSteps.{CurvesGoOn, CurvesStand, GoesOnTo, LastPoint, at}
pub use Rattle.nf_phase_laws.specs.Description.{DescribesLinks, DescriptionGoesOn}
pub use Rattle.nf_phase_laws.specs.DescriptionCurves.{DescriptionCurvesGoOn, DescriptionStands}
pub use Rattle.nf_phase_laws.specs.Invariant.{GoesOn, HoldsUpTo, LabelsAre, StartsEmpty, link_slack, queue_by_slack, sent, tail_or}
pub use Rattle.nf_phase_laws.specs.RunLaws.{KeepsLabels, reached_by}
pub use Rattle.nf_rational.specs.Operations.{0ℚ, 1ℚ, ◌*ℚ◌, ◌+ℚ◌, ◌-ℚ◌, ◌/ℚ◌}
pub use Rattle.nf_rational.specs.Order.{lt_ℚ, max_ℚ, min_ℚ, ◌<ℚ◌, ◌≤ℚ◌}
pub use Rattle.nf_rational.specs.Rational.{ℚ}
pub use Rattle.nf_rational.specs.Signs.{are_opposite, is_positive, is_same, is_zero}
pub use Rattle.nf_rational_laws.proofs.Chains.{<_≤_trans, ≤ℚ_refl, ≤ℚ_trans}
pub use Rattle.nf_rational_laws.proofs.Entries.{entry, last-append, length-enumerated, slice_get-image, slice_get-replicate}
pub use Rattle.nf_rational_laws.proofs.Extremes.{max_left, min_keeps, min_left, min_right}
pub use Rattle.nf_rational_laws.proofs.Facts.{in_time, later_by, less_le, one_ps, plus_zero_le, same_slacks, times_second_zero}
pub use Rattle.nf_rational_laws.proofs.Linear.{eq, eq_times, le, le_times, linear_eq, linear_false, linear_le, linear_lt, lt}
pub use Rattle.nf_rational_laws.proofs.Order.{less_nn, less_ps, lt_or_le_ℚ, nn_plus, not_both_ℚ, ps_times, ≤ℚ_antisymm, ≤ℚ_of_lt, ≤ℚ_of_same}
pub use Rattle.nf_rational_laws.proofs.Polynomial.{reading_of}
pub use Rattle.nf_rational_laws.proofs.Quotient.{/ℚ-times, /ℚ_is, ps_apart, ps_inv}
pub use Rattle.nf_rational_laws.proofs.SignTests.{is_same-itself, same_of_test, zero_of_test}
pub use Rattle.nf_rational_laws.proofs.Tests.{less_of_test, lt_ℚ_cases, max0_none, max0_of, max_ℚ_cases, min_ℚ_cases, not_less_of_test, test_of_less}
pub use Rattle.nf_thin_def.specs.CurveList.{LinkPhase, LinkStep, QueueStep, is_filled, link_phase, link_step, queue_step, rate_over, size_at, slope_at}
pub use Rattle.nf_thin_def.specs.Ends.{EndsAtLabels, time_of_last}
pub use Rattle.nf_thin_def.specs.Extend.{after_link, least_after, lesser, to_zero, until_change}
pub use Rattle.nf_thin_def.specs.PhaseRun.{Bounds, Goes, IsPhaseRun, IsRunReport, IsShortFlow, IsStart, PhaseStep, Runs, Standing, at_horizon, at_phases}
pub use Rattle.nf_thin_def.specs.PhaseRun.{fails, flow_of, goes, standing_after}
pub use Rattle.nf_thin_def.specs.ReportCurves.{GrowingCurve, LinkCurves, amount_so_far, curve_with, curves_after, first_curves, first_label_curve}
pub use Rattle.nf_thin_def.specs.ReportCurves.{first_queue, first_trace, keeps_slope, label_curves_after, link_curves_after, queue_curve_after, trace_after}
pub use Rattle.nf_thin_def.specs.ReportCurves.{trace_with, with_point, with_rate}
pub use Rattle.nf_thin_laws.proofs.ActiveLinks.{AreSets-sets_at}
pub use Rattle.nf_thin_laws.proofs.Ending.{PhaseParts, enumerated, from_map, number-moved, phase_parts}
pub use Rattle.nf_thin_laws.proofs.Exact.{curve_list_as, extend_list_as}
pub use Rattle.std.proofs.lemmas.Bool.{and_parts, false≢true, or_cases}
pub use Rattle.std.proofs.lemmas.Bool.Decides.{eqb_tells}
pub use Rattle.std.proofs.lemmas.List.{length-map}
pub use Rattle.std.proofs.lemmas.Option.{none-some, same_Some, slice_get-get_or, slice_get_cases, slice_get_within}
pub use Rattle.std.specs.List.{enumerate_from, last_or}
pub use Rattle.std.specs.Option.{option_map_or}
