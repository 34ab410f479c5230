-- The names that most proofs of this crate cite, passed on from one place. Declares nothing.
pub use Rattle.nf_app.specs.Arrivals.{ArrivesIn, IsArrivalOf, arrival_of}
pub use Rattle.nf_app.specs.Completeness.{EndsWell, IsComplete, ToldRequest, endings, endings_of}
pub use Rattle.nf_app.specs.FullAnswers.{ResumeAnswer, SolveAnswer}
pub use Rattle.nf_app.specs.Gathered.{IsGathered, OtherFits}
pub use Rattle.nf_app.specs.Lists.{by_route_list, departs_list, flow_list, loading_list}
pub use Rattle.nf_app.specs.Outcomes.{AnswersCall, FindsResult}
pub use Rattle.nf_app.specs.Refused.{IsUnbounded}
pub use Rattle.nf_app.specs.Reports.{IsNoReportText, IsReportText}
pub use Rattle.nf_app.specs.Requests.{OtherIsText, bounds_to, budgets_of, files_of, generated_by, network_file, other_of, usual_budgets}
pub use Rattle.nf_app.specs.Results.{IsResultOf}
pub use Rattle.nf_app.specs.Resumption.{AnswerIsOfOneRun, AsksToResumeRun, ComputesReportOfOneRun, ReportIsOfOneRun, WritesReportOfOneRun}
pub use Rattle.nf_app.specs.Runs.{Asks, Call, FetchedUpTo, HasNetwork, IsComputed, IsOneOf, IsRefusedCall, MayAnswer, NoFault, Ran, Run}
pub use Rattle.nf_app.specs.Settling.{AreNotThin, AreSettled, AreThin, PassesFirst, SlacksFit, TestFits, at_settling, at_slack, at_test}
pub use Rattle.nf_app.specs.SettlingSteps.{AreStartSets, SettlesAtStart}
pub use Rattle.nf_app.specs.Told.{AreTold, BothFit, IsToldAnswer, IsToldText, NetworkIs, Telling, TellsAll, TextFits, Texts, TextsGive, answered, by_texts}
pub use Rattle.nf_app.specs.Told.{malformed, no_request, second_bytes, too_long}
pub use Rattle.nf_app_answers.specs.Answers.{Checked, Distributed, Earlier, Generated, Loaded, Malformed, MalformedFlows, MalformedLoads, MalformedReport}
pub use Rattle.nf_app_answers.specs.Answers.{MalformedRoutes, NoMemory, NoRequest, NotThin, Passes, ProgramAnswer, Quickest, Settled, ShelfFailed}
pub use Rattle.nf_app_answers.specs.Answers.{ShelfTooLong, Shown, Solved, SolvedForever, TooManyWalks, Unbounded, err_text, out_text, status_of}
pub use Rattle.nf_app_answers.specs.Answers.{status_of_forever, status_of_stop, status_of_verdict}
pub use Rattle.nf_app_answers.specs.Refusals.{refusal_of_flows, refusal_of_halt, refusal_of_loads, refusal_of_report, refusal_of_routes, refused_answer}
pub use Rattle.nf_app_answers.specs.declared.arrival.Arrival.{Arrival}
pub use Rattle.nf_app_answers.specs.declared.outcome.Computed.{Computed}
pub use Rattle.nf_app_answers.specs.declared.refusal.Refusal.{Refusal}
pub use Rattle.nf_app_answers.specs.declared.status.Status.{Status}
pub use Rattle.nf_app_files.specs.Fetching.{AreRead, IsLastText, IsTold, NetworkReads, OfLastBytes}
pub use Rattle.nf_app_files.specs.Files.{FetchedAll, FetchedNone, FetchedTo, FitsLimit, HasTooMany, Visit, Wanted, input_file, input_limit, report_file}
pub use Rattle.nf_app_files.specs.Files.{visit}
pub use Rattle.nf_app_files.specs.Shown.{IsShown, IsShownWhole}
pub use Rattle.nf_app_files.specs.Sinks.{Took, TookAll, TookText, took_of}
pub use Rattle.nf_app_words.specs.RequestViews.{requested}
pub use Rattle.nf_app_words.specs.Requests.{CanBeAsked, Check, Gen, Load, Quick, Request, Resume, Routes, Settle, Show, Solve, SolveForever, request_of}
pub use Rattle.nf_check.specs.Answers.{IsExact}
pub use Rattle.nf_check_def.specs.CheckList.{check_list}
pub use Rattle.nf_check_def.specs.declared.Answer.TheVariants.{No, Yes}
pub use Rattle.nf_complete_def.specs.Cancelling.{Settles}
pub use Rattle.nf_complete_def.specs.FlowsFile.{FlowsBroken, GivenFlows, flows_in}
pub use Rattle.nf_complete_def.specs.ThinList.{thin_list}
pub use Rattle.nf_complete_laws.specs.SettleLaws.{AreGoodSets}
pub use Rattle.nf_complete_read.specs.Files.{given_of}
pub use Rattle.nf_curve.proofs.Exits.{after_err, after_ok, each_ends, each_goes, each_stops, stops_on, was_ok}
pub use Rattle.nf_curve.specs.Flows.{seen_flow, seen_trace}
pub use Rattle.nf_edge.specs.Faults.{Rose}
pub use Rattle.nf_edge.specs.Taken.{with_more}
pub use Rattle.nf_forever.specs.Seen.{forever_in, tail_in}
pub use Rattle.nf_forever_def.specs.Extended.{flow_until}
pub use Rattle.nf_forever_def.specs.ForeverRun.{End, Forever, IsForever, IsForeverRun, NeverEnds, RunsForever, at_phases, fails, forever_of, goes}
pub use Rattle.nf_forever_def.specs.ForeverRun.{never_ends}
pub use Rattle.nf_forever_laws.proofs.OneForever.{one_forever}
pub use Rattle.nf_forever_laws.specs.TailGrowth.{TailGrows}
pub use Rattle.nf_frac_def.proofs.Each.{no_front, with_front}
pub use Rattle.nf_frac_def.proofs.Exact.{same_value}
pub use Rattle.nf_frac_def.specs.Checked.{Gives, Stops, at_part, each, placed}
pub use Rattle.nf_frac_def.specs.Passing.{Passing, passes_Q}
pub use Rattle.nf_frac_def.specs.declared.Halt.{Halt}
pub use Rattle.nf_frac_def.specs.declared.Part.TheVariants.{Slack, Verdict}
pub use Rattle.nf_frac_def.specs.declared.Passed.{Passed}
pub use Rattle.nf_frac_def.specs.declared.PassedAt.{PassedAt}
pub use Rattle.nf_load.specs.Loadings.{loaded_of}
pub use Rattle.nf_load_def.specs.Loads.{load_link_list, load_list}
pub use Rattle.nf_model.specs.Curve.{IsCurve, Point, Within, value}
pub use Rattle.nf_model.specs.Equilibrium.{Equilibrium, Flow, inflow, label, points_at}
pub use Rattle.nf_model.specs.Network.{ArePieces, IsLink, IsNetwork, Link, Network, Piece, hops, rate_at}
pub use Rattle.nf_model.specs.Pattern.{IsListedIn, IsSolution, Pattern}
pub use Rattle.nf_model.specs.Phases.{AreStartLabels}
pub use Rattle.nf_model.specs.ThinFlow.{IsThinFlow, Sets, sets_at, sets_of}
pub use Rattle.nf_net_def.specs.Named.{Named}
pub use Rattle.nf_net_def.specs.NetFile.{Reads}
pub use Rattle.nf_net_def.specs.NetLines.{Broken}
pub use Rattle.nf_net_def.specs.Report.{IsWellFormed, Report, report_text}
pub use Rattle.nf_net_def.specs.WellNamed.{IsNamed}
pub use Rattle.nf_net_def.specs.declared.Cause.{Cause}
pub use Rattle.nf_net_laws.proofs.Once.{reads_at_most_once}
pub use Rattle.nf_phase.specs.Solution.{IsFinished, IsRunSolution, bounds_of, solution_report}
pub use Rattle.nf_phase.specs.Stepping.{Reaches, goes_on, starts}
pub use Rattle.nf_phase_def.specs.Restoring.{EndsAtItsLabels}
pub use Rattle.nf_phase_def.specs.ToEnd.{Tail}
pub use Rattle.nf_phase_run_laws.proofs.Stops.{never_forever, never_on, never_report, never_resumed}
pub use Rattle.nf_phase_run_laws.specs.Stops.{NeverNoPattern}
pub use Rattle.nf_quick.specs.Answered.{HasNoWay, IsAnswered, IsInOrder}
pub use Rattle.nf_quick.specs.declared.fault.QuickFault.{QuickFault}
pub use Rattle.nf_quick_def.specs.Departures.{IsDeparture}
pub use Rattle.nf_rational.specs.Operations.{0ℚ, 1ℚ}
pub use Rattle.nf_rational.specs.Order.{◌<ℚ◌, ◌≤ℚ◌}
pub use Rattle.nf_rational.specs.Rational.{ℚ}
pub use Rattle.nf_rational_laws.proofs.Chains.{≤ℚ_refl}
pub use Rattle.nf_rational_laws.proofs.Order.{<ℚ_irrefl, not_both_ℚ}
pub use Rattle.nf_rational_laws.proofs.Results.{IsOk-not_Err, Ok_not_Err, Some_not_None, one_Err}
pub use Rattle.nf_report_def.specs.LoadsFile.{LoadsBroken, loads_in, pieces_at}
pub use Rattle.nf_report_def.specs.ReportFile.{ReportBroken, report_in}
pub use Rattle.nf_report_def.specs.declared.ReportRule.{ReportRule}
pub use Rattle.nf_report_laws.proofs.ReportKept.{report_kept}
pub use Rattle.nf_report_read.specs.Files.{IfBroken, seen_report}
pub use Rattle.nf_resume.specs.Faults.{IsRefusedReport, IsResumeFault}
pub use Rattle.nf_resume_def.specs.Meanings.{GoesOnFrom, IsResumedReport}
pub use Rattle.nf_resume_def.specs.Resuming.{Refused, Stands, resume_list}
pub use Rattle.nf_routes.specs.Carried.{carried_of}
pub use Rattle.nf_routes_def.specs.RoutesFile.{NamedRoute, ReadsRoutes, RoutesBroken, routes_in, routes_of}
pub use Rattle.nf_routes_laws.proofs.FileReading.{only_reading}
pub use Rattle.nf_text.specs.declared.fault.FileFault.{FileFault}
pub use Rattle.nf_thin_def.specs.PhaseRun.{Bounds, IsRunReport, IsShortFlow, Standing, flow_of, report_of}
pub use Rattle.nf_thin_def.specs.ReportCurves.{GrowingCurve, first_curves, first_label_curve}
pub use Rattle.nf_thin_def.specs.Slack.{slack_list}
pub use Rattle.nf_thin_laws.proofs.ActiveLinks.{AreSets-sets_at, HoldNoCycle-sets_at, NoneEntersSource-acyclic}
pub use Rattle.nf_thin_laws.proofs.OneRun.{one_report, one_run, one_start}
pub use Rattle.nf_thin_laws.specs.ActiveLinks.{EachIsEntered, NoneEntersSource}
pub use Rattle.std.proofs.lemmas.List.{append_cancel_left, length-append, length-map, map-append}
pub use Rattle.std.proofs.lemmas.List.Elements.{All-cons, All-head, All-nil, All-tail}
pub use Rattle.std.proofs.lemmas.Option.{none-some, same_Some}
pub use Rattle.std.proofs.lemmas.Result.{IfOk-from_err, err_from_is_err_and}
pub use Rattle.std.specs.List.{All, last_or}
pub use Rattle.std.specs.Option.{option_copied, option_map_or}
