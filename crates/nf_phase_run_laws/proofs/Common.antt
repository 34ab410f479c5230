-- The names that most proofs of this crate cite, passed on from one place. Declares nothing.
pub use Rattle.nf_check_def.specs.CheckList.{check_list}
pub use Rattle.nf_check_def.specs.Rules.{Arrivals, Balance, Breaks, BreaksFirst, ComesBefore, ExitAt, Holds, Inflow, InflowRates, Label, Outflow}
pub use Rattle.nf_check_def.specs.Rules.{OutflowRates, Queue, Route, SinkAfter, SinkBefore, Test, rule_of}
pub use Rattle.nf_check_def.specs.declared.Answer.{Answer}
pub use Rattle.nf_check_def.specs.declared.Answer.TheVariants.{No, Yes}
pub use Rattle.nf_check_laws.proofs.Broken.{middle_in, not-broken}
pub use Rattle.nf_check_laws.proofs.Checking.{check_list-checks}
pub use Rattle.nf_check_laws.proofs.Holding.{AllHold-equilibrium, Equilibrium-holding, by_source, end_at-other, end_at-source}
pub use Rattle.nf_check_laws.specs.Laws.{AllHold, CanBeChecked}
pub use Rattle.nf_complete_def.specs.Reached.{StopsForNoThinFlow, labels_reached}
pub use Rattle.nf_complete_laws.proofs.Numbers.{length-numbers, number_at-numbers, numbers}
pub use Rattle.nf_complete_laws.proofs.Stopped.{EndsForNone, end_stops, failing_ends, horizon_ends, phases_end, stops_for_none}
pub use Rattle.nf_curve_def.specs.Lines.{Sides, checked_line, checked_slope}
pub use Rattle.nf_curve_def.specs.Short.{checked_slopes, short_points, turning}
pub use Rattle.nf_curve_def.specs.Values.{points_before, value_from}
pub use Rattle.nf_curve_laws.proofs.Operations.{checked_slope-is, is_same_cases, not_same, then_ok}
pub use Rattle.nf_forever_def.specs.ForeverRun.{End, Forever, IsForever, IsForeverRun}
pub use Rattle.nf_forever_laws.proofs.Run.{Equilibrium-forever, Equilibrium-forever_of, well_forever}
pub use Rattle.nf_frac_def.specs.Checked.{Checked, at_part, checked, each, fold_checked, placed, ◌>>=◌}
pub use Rattle.nf_frac_def.specs.Passing.{Passing, never, passes_Q, result_of, sum_is_wide}
pub use Rattle.nf_frac_def.specs.declared.Op.{Op}
pub use Rattle.nf_frac_def.specs.declared.Op.TheVariants.{Difference, Product, Quotient, Sum}
pub use Rattle.nf_frac_def.specs.declared.Part.TheVariants.{Advance, Curve, Extend, Table, Verdict}
pub use Rattle.nf_frac_def.specs.declared.Passed.{Passed}
pub use Rattle.nf_linear_def.specs.Table.{Eliminated, Row, clear_rows, clear_unless, cleared_row, eliminate_at, eliminate_from, entries_less, if_some}
pub use Rattle.nf_linear_def.specs.Table.{less_unless, pivot_of, row_at, solution_from, solution_of, table_list}
pub use Rattle.nf_model.specs.Curve.{AreSlopes, IsCurve, IsLeast, IsShort, NeverFalls, Point, TimesRise, Within, slope, value}
pub use Rattle.nf_model.specs.Entries.{Has, number_at}
pub use Rattle.nf_model.specs.Equilibrium.{Balances, Equilibrium, Flow, TakesFlow, Trace, inflow, label, outflow, points_at}
pub use Rattle.nf_model.specs.Network.{ArePieces, IsLink, IsNetwork, Link, Network, Piece, first_start, hop_of, hops, next_change, rate_at, rate_from}
pub use Rattle.nf_model.specs.Network.{sum_in, sum_out, supply, unbounded}
pub use Rattle.nf_model.specs.Pattern.{IsBase, IsListedIn, IsSolution, Pattern}
pub use Rattle.nf_model.specs.Phases.{AreStartLabels, IsExtension, IsPhase, IsPhaseLength, IsPhaseSequence, IsUnending, Lasts, PhasesFrom, moved}
pub use Rattle.nf_model.specs.Queue.{IsOutflow}
pub use Rattle.nf_model.specs.ThinFlow.{Sets, sets_at, slack, slacks_of}
pub use Rattle.nf_model.specs.Walk.{Hop, IsHop, IsLeastTransit, IsWalk, transit_of, transit_sum}
pub use Rattle.nf_model.specs.declared.State.{State}
pub use Rattle.nf_model_laws.proofs.OneValue.{IsExtension-ends, IsExtension-unique, IsPhaseLength-unique}
pub use Rattle.nf_model_laws.proofs.Slacks.{active_of_slack, slack_of_resetting}
pub use Rattle.nf_model_laws.proofs.Supply.{rate_from-not_negative}
pub use Rattle.nf_net_def.specs.Named.{Named, NamedLink, links_by_name}
pub use Rattle.nf_net_def.specs.Report.{IsWellFormed, Report}
pub use Rattle.nf_net_def.specs.WellNamed.{IsCapacity, IsFraction, IsFractionPiece, IsNamed, IsNamedLink}
pub use Rattle.nf_net_def.specs.declared.Cause.{Cause}
pub use Rattle.nf_net_laws.proofs.AcceptedNamed.{every_append}
pub use Rattle.nf_phase_def.specs.Open.{IsOpen, RunsOn, Steps, at_horizon, at_phases, begins, continues, fails, steps, with_last}
pub use Rattle.nf_phase_def.specs.Restoring.{growing, last_slope, link_curves_of, restore_list, standing_of, value_at_end}
pub use Rattle.nf_phase_laws.proofs.CurveRun.{Grown, grown_by}
pub use Rattle.nf_phase_laws.proofs.Length.{IsPhase-some, IsPhaseLength-some}
pub use Rattle.nf_phase_laws.proofs.Phases.{IsPhaseLength-within, stands_after}
pub use Rattle.nf_phase_laws.proofs.Run.{Equilibrium-well, IsPhase-goes, WellRun-goes, WellRun-runs, parts_of, report_equilibrium}
pub use Rattle.nf_phase_laws.proofs.RunsOn.{WellRun-on, WellRun-step, closed-at_start}
pub use Rattle.nf_phase_laws.proofs.ShortRun.{ShortRun, ShortRun-start, stands_at}
pub use Rattle.nf_phase_laws.proofs.Standing.{grown_at, source_label_at, unbounded_slack_at}
pub use Rattle.nf_phase_laws.proofs.Still.{leaves_none}
pub use Rattle.nf_phase_laws.proofs.WellRun.{WellRun, WellRun-counted, WellRun-start, inflow_points, label_points, number_is, outflow_points, queue_points}
pub use Rattle.nf_phase_laws.specs.CurveRun.{Curves, FirstCurves, begin, curves_of, first_points}
pub use Rattle.nf_phase_laws.specs.CurveSteps.{CurvesGoOn, CurvesStand, GoesOnTo, LastPoint, at}
pub use Rattle.nf_phase_laws.specs.Invariant.{GoesOn, HoldsUpTo, LabelsAre, link_slack}
pub use Rattle.nf_phase_run_laws.specs.ReadableLaws.{AreReadable, ReadsBack}
pub use Rattle.nf_phase_run_laws.specs.ResumedLaws.{NonePassesNext, RestFits, with_made}
pub use Rattle.nf_phase_run_laws.specs.ThinFlows.{HasThinFlow}
pub use Rattle.nf_phase_run_laws.specs.VerdictLaws.{AllButRoutesHold}
pub use Rattle.nf_rational.specs.Operations.{0ℚ, 1ℚ, neg_ℚ, whole, ◌*ℚ◌, ◌+ℚ◌, ◌-ℚ◌, ◌/ℚ◌}
pub use Rattle.nf_rational.specs.Order.{le_ℚ, lt_ℚ, min_ℚ, ◌<ℚ◌, ◌≤ℚ◌}
pub use Rattle.nf_rational.specs.Rational.{ℚ}
pub use Rattle.nf_rational.specs.Signs.{are_opposite, is_positive, is_same, is_zero}
pub use Rattle.nf_rational_laws.proofs.Chains.{<_≤_trans, ≤ℚ_refl, ≤ℚ_trans}
pub use Rattle.nf_rational_laws.proofs.Entries.{entry, last-append, slice_get-image}
pub use Rattle.nf_rational_laws.proofs.Extremes.{min_left, min_right}
pub use Rattle.nf_rational_laws.proofs.Facts.{later_by, less_le, not_before_by, same_slacks, term_of_zero}
pub use Rattle.nf_rational_laws.proofs.Linear.{eq, le, le_times, linear_eq, linear_false, linear_le, linear_lt, lt}
pub use Rattle.nf_rational_laws.proofs.Order.{<ℚ_irrefl, less_nn, lt_or_le_ℚ, nn_plus, not_both_ℚ, ps_times, ps_whole, ≤ℚ_antisymm, ≤ℚ_of_lt, ≤ℚ_of_same}
pub use Rattle.nf_rational_laws.proofs.Polynomial.{reading_of}
pub use Rattle.nf_rational_laws.proofs.Results.{same_Err, same_Ok}
pub use Rattle.nf_rational_laws.proofs.Tests.{le_ℚ_cases, lt_ℚ_cases, min_ℚ_cases, test_of_le, test_of_less, test_of_lt, test_of_not_less}
pub use Rattle.nf_report_def.specs.ReportFile.{report_in}
pub use Rattle.nf_report_laws.proofs.ReportBack.{report_back}
pub use Rattle.nf_report_laws.proofs.ReportFit.{fit}
pub use Rattle.nf_report_laws.specs.Readable.{AreFractionPoints, IsCount, IsFractionOrNone, IsFractionPoint, IsFractionTrace, IsReadable, IsReadableCause}
pub use Rattle.nf_resume_def.specs.Meanings.{IsResumed, IsResumedReport, NonePassesIn}
pub use Rattle.nf_resume_def.specs.Resuming.{CutLink, OfLink, Stands, after_check, cut_flow, cut_flow_of, cut_link, cut_short, cut_trace, links_with}
pub use Rattle.nf_resume_def.specs.Resuming.{resume_list}
pub use Rattle.nf_resume_laws.proofs.CutPhase.{IsExtension-left, IsOpen-cut, Lasts-left, closed-at_extension, slack-moves, stays-above, stays-below}
pub use Rattle.nf_resume_laws.proofs.Stepping.{list-stands}
pub use Rattle.nf_thin_def.specs.Accepted.{IsAccepted, Solved, after_table}
pub use Rattle.nf_thin_def.specs.CurveList.{LinkPhase, LinkStep, QueueStep, curve_list, is_filled, link_phase, link_step, queue_step, rate_over, size_at}
pub use Rattle.nf_thin_def.specs.CurveList.{slope_at}
pub use Rattle.nf_thin_def.specs.Equations.{FlowOn, SlopeOf, Unknown, fills_factor, leaves_less_enters, link_factor, link_flows_in, link_rows, node_factor}
pub use Rattle.nf_thin_def.specs.Equations.{node_row, one_if, onto_links, row, slopes_in, source_factor, unknowns}
pub use Rattle.nf_thin_def.specs.Extend.{after_link, least_after, lesser, to_zero, until_change}
pub use Rattle.nf_thin_def.specs.PhaseRun.{Bounds, Fails, Goes, IsPhaseRun, IsRunReport, IsStart, PhaseStep, Runs, Seeks, Standing, at_lists, at_search}
pub use Rattle.nf_thin_def.specs.PhaseRun.{at_slack, cause_of_search, flow_of, goes, phase_lists, report_of, standing_after}
pub use Rattle.nf_thin_def.specs.ReportCurves.{GrowingCurve, LinkCurves, amount_so_far, curves_after, first_curves, first_label_curve, first_queue}
pub use Rattle.nf_thin_def.specs.ReportCurves.{first_trace, keeps_slope, label_curves_after, link_curves_after, queue_curve_after, trace_after, with_point}
pub use Rattle.nf_thin_def.specs.ReportCurves.{with_rate}
pub use Rattle.nf_thin_def.specs.Search.{Found, IsSearch, NoPattern, OverBudget, PassesAt, SearchAnswer}
pub use Rattle.nf_thin_equation_laws.specs.Equations.{IsPatternIn, SolvesAlone}
pub use Rattle.nf_thin_laws.proofs.ActiveLinks.{AreSets-sets_at, HoldNoCycle-sets_at}
pub use Rattle.nf_thin_laws.proofs.Bases.{one_base, same_entries}
pub use Rattle.nf_thin_laws.proofs.Ending.{PhaseParts, from_map}
pub use Rattle.nf_thin_laws.proofs.OneRun.{StepsTo, goes_knows, goes_or_fails, horizon_met, length-sets, none_made, one_made, one_phase, one_start}
pub use Rattle.nf_thin_laws.proofs.OneRun.{phases_made, same_end, start_knows}
pub use Rattle.std.proofs.lemmas.Bool.{cases_lt, le-ltb, ltb-false, or_from, or_parts}
pub use Rattle.std.proofs.lemmas.Option.{none-some, same_Some, slice_get_within}
pub use Rattle.std.specs.List.{AllByRecursion, enumerate_from, flat_map, last_or, range_with_len}
pub use Rattle.std.specs.Option.{option_map_or}
