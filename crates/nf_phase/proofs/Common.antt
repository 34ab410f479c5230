-- The names that most proofs of this crate cite, passed on from one place. Declares nothing.
pub use Rattle.nf_curve.proofs.Exits.{after_err, after_ok, err_before, ok_before, stops_on, was_ok}
pub use Rattle.nf_curve.specs.Points.{Grown}
pub use Rattle.nf_frac_def.proofs.AtPart.{part_ok}
pub use Rattle.nf_frac_def.specs.Checked.{Checked, Stops, at_part, each, placed, ◌>>=◌}
pub use Rattle.nf_frac_def.specs.Passing.{Passing, passes_Q}
pub use Rattle.nf_frac_def.specs.declared.Halt.{Halt}
pub use Rattle.nf_frac_def.specs.declared.Part.TheVariants.{Advance, Curve, Extend, Slack}
pub use Rattle.nf_frac_def.specs.declared.Passed.{Passed}
pub use Rattle.nf_frac_def.specs.declared.PassedAt.{PassedAt}
pub use Rattle.nf_graph.proofs.NetworkHops.{below_nodes, hops_length}
pub use Rattle.nf_model.specs.Entries.{Has, number_at}
pub use Rattle.nf_model.specs.Equilibrium.{Equilibrium, Flow, HasSlopes, Trace, label}
pub use Rattle.nf_model.specs.Network.{IsLink, IsNetwork, IsPiece, Link, Network, Piece, hop_of, hops, unbounded}
pub use Rattle.nf_model.specs.Pattern.{HasState, IsBase, IsListedIn, IsPattern, Pattern}
pub use Rattle.nf_model.specs.Phases.{IsExtension, IsPhaseLength, IsUnending}
pub use Rattle.nf_model.specs.ThinFlow.{Sets, sets_at, slack, slacks_of}
pub use Rattle.nf_model.specs.Walk.{Hop}
pub use Rattle.nf_model.specs.declared.State.{State}
pub use Rattle.nf_model_laws.proofs.Slacks.{slack_at, slack_of_resetting}
pub use Rattle.nf_net_def.specs.declared.Cause.{Cause}
pub use Rattle.nf_phase.specs.Faults.{of_halt, of_search}
pub use Rattle.nf_phase.specs.Finding.{FindsNone, IsFound, LeadsOn, ListsPass, after_phase, at_lists, at_search, at_slack, step_in}
pub use Rattle.nf_phase.specs.OpenRuns.{ApartAt, HaveStateOrSlack, after_rest, none_starts}
pub use Rattle.nf_phase.specs.Solution.{IsFinished, IsRunSolution, bounds_of, cause_of, solution_report, stop_after}
pub use Rattle.nf_phase.specs.Stepping.{IsCause, IsCauseOn, IsFaultOf, IsRunState, LeadsOnlyTo, Reaches, goes_on, keeps_on, restored, starts, tail_by}
pub use Rattle.nf_phase.specs.declared.fault.StepFault.{StepFault}
pub use Rattle.nf_phase.specs.declared.finding.PhaseStart.{PhaseStart}
pub use Rattle.nf_phase.specs.declared.phase.Phase.{Phase}
pub use Rattle.nf_phase_curves.proofs.Places.{holds_anyway, nothing_given}
pub use Rattle.nf_phase_curves.specs.Growing.{Roomy, all_grown}
pub use Rattle.nf_phase_curves.specs.Restoring.{of_links}
pub use Rattle.nf_phase_def.specs.Open.{Continues, IsOpen, RunsOn, Steps, at_horizon, at_phases, begins, continues, fails, steps, with_last}
pub use Rattle.nf_phase_def.specs.Restoring.{EndsAtItsLabels, IsRestored, growing, link_curves_of, restore_list, value_at_end}
pub use Rattle.nf_phase_def.specs.ToEnd.{FailsOn, GoesForever, GoesToEnd, SeeksOn, end_list}
pub use Rattle.nf_phase_equilibrium_laws.proofs.RestoredRun.{flow_restored, last_restored, short_restored, well_restored}
pub use Rattle.nf_phase_laws.proofs.Run.{Equilibrium-well, IsPhase-goes, WellRun-goes}
pub use Rattle.nf_phase_laws.proofs.ShortRun.{IsShortFlow-run, KeepsLabels-run, ShortRun, ShortRun-goes, ShortRun-start, run_keeps}
pub use Rattle.nf_phase_laws.proofs.Standing.{ends_at, label_count_at, source_label_at, unbounded_slack_at}
pub use Rattle.nf_phase_laws.proofs.WellRun.{WellRun, WellRun-counted, WellRun-start, inflow_points, label_points, outflow_points, queue_points}
pub use Rattle.nf_phase_laws.specs.RunLaws.{KeepsLabels, reached_by}
pub use Rattle.nf_rational.specs.Operations.{0ℚ, ◌+ℚ◌, ◌-ℚ◌}
pub use Rattle.nf_rational.specs.Order.{lt_ℚ, ◌<ℚ◌, ◌≤ℚ◌}
pub use Rattle.nf_rational.specs.Rational.{ℚ}
pub use Rattle.nf_rational_laws.proofs.Entries.{entry}
pub use Rattle.nf_rational_laws.proofs.Order.{<ℚ_irrefl, not_both_ℚ, ≤ℚ_antisymm}
pub use Rattle.nf_rational_laws.proofs.Results.{None_of_test, not_both}
pub use Rattle.nf_thin.specs.Questions.{AreSetsOf, NoneResetsUnbounded}
pub use Rattle.nf_thin_def.specs.Advance.{Advanced, advance_list, cut_at}
pub use Rattle.nf_thin_def.specs.CurveList.{LinkStep, curve_list}
pub use Rattle.nf_thin_def.specs.Ends.{EndsAtLabels, time_of_last}
pub use Rattle.nf_thin_def.specs.Extend.{extend_list}
pub use Rattle.nf_thin_def.specs.PhaseRun.{Bounds, Fails, Goes, IsPhaseRun, IsSearchHere, IsShortFlow, IsStart, PhaseStep, Seeks, Standing, flow_of}
pub use Rattle.nf_thin_def.specs.PhaseRun.{phase_lists, report_of}
pub use Rattle.nf_thin_def.specs.ReportCurves.{GrowingCurve, LinkCurves, amount_so_far, first_curves, first_label_curve, label_curves_after}
pub use Rattle.nf_thin_def.specs.ReportCurves.{link_curves_after}
pub use Rattle.nf_thin_def.specs.Search.{Found, NoPattern, OverBudget, PassesAt, SearchAnswer}
pub use Rattle.nf_thin_def.specs.Slack.{slack_list}
pub use Rattle.nf_thin_laws.proofs.Ending.{PhaseParts, from_map, length-moved, phase_parts}
pub use Rattle.nf_thin_laws.proofs.Exact.{advanced_exact, slacks_exact}
pub use Rattle.std.proofs.lemmas.Bool.{false≢true}
pub use Rattle.std.proofs.lemmas.List.{length-map, length-replicate, take_all, with_items_is}
pub use Rattle.std.proofs.lemmas.Option.{MatchOption-at_some, none-some, same_Some, slice_get-map, slice_get_read, slice_get_within}
pub use Rattle.std.proofs.lemmas.Result.{IfOk-equal, IfOk-from_err, IfOk-weaker, err_from_is_err_and}
pub use Rattle.std.specs.Result.{IsErrAnd}
