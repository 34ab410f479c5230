-- The names that most proofs of this crate cite, passed on from one place. Declares nothing.
pub use Rattle.nf_frac_def.proofs.Examples.{in_127_bits, n}
pub use Rattle.nf_frac_def.specs.Checked.{Checked, at_part, checked, each, placed, ◌>>=◌}
pub use Rattle.nf_frac_def.specs.Passing.{Passing, never}
pub use Rattle.nf_frac_def.specs.declared.Op.TheVariants.{Difference, Product, Quotient, Sum}
pub use Rattle.nf_frac_def.specs.declared.Part.{Part}
pub use Rattle.nf_frac_def.specs.declared.Part.TheVariants.{Advance, Curve, Extend, Slack}
pub use Rattle.nf_frac_def.specs.declared.Passed.{Passed}
pub use Rattle.nf_frac_def.specs.declared.PassedAt.{PassedAt}
pub use Rattle.nf_model.specs.Entries.{Has, number_at}
pub use Rattle.nf_model.specs.Network.{ArePieces, IsLink, IsNetwork, IsPiece, Link, Network, Piece, hop_of, hops, next_change, rate_at, sum_in, sum_out}
pub use Rattle.nf_model.specs.Network.{unbounded}
pub use Rattle.nf_model.specs.Pattern.{AllDiffer, Equation, Fills, HasState, Inequality, IsBase, IsBefore, IsEarlier, IsFirstInto, IsForest, IsListed}
pub use Rattle.nf_model.specs.Pattern.{IsListedIn, IsPattern, IsSolution, IsSolvable, IsTrail, Meets, NeedsState, Pattern, Solves, changes, rank}
pub use Rattle.nf_model.specs.Phases.{AreStartLabels, IsPhase, IsPhaseLength, IsPhaseSequence, IsUnending, Lasts, PhasesFrom, moved}
pub use Rattle.nf_model.specs.ThinFlow.{Enters, IsThinFlow, Sets, exit_slope, exit_slope_at, sets_at, sets_of, slack, slacks_of, surplus}
pub use Rattle.nf_model.specs.Walk.{Hop, IsHop, IsLeastTransit, IsWalk, transit_of, transit_sum}
pub use Rattle.nf_model.specs.declared.State.{State}
pub use Rattle.nf_model.specs.declared.State.TheVariants.{Full, Tight, Zero}
pub use Rattle.nf_model_laws.proofs.Affine.{le_from_times, nn-quotient, ps-times_gap, quotient-times, same_from_times}
pub use Rattle.nf_model_laws.proofs.Earliest.{IsPositive-link}
pub use Rattle.nf_model_laws.proofs.Networks.{IsLink-unique, IsWalk-link, hop_at, link_at, transit_of-is}
pub use Rattle.nf_model_laws.proofs.Potential.{EndsBelow, carried, carried-each, carried-is, fall, out_less_in, sum_to-same}
pub use Rattle.nf_model_laws.proofs.Sums.{sum_in-each, sum_in-line, sum_in-none, sum_in-order, sum_in-same, sum_out-each, sum_out-line, sum_out-none}
pub use Rattle.nf_model_laws.proofs.Sums.{sum_out-order, sum_out-same}
pub use Rattle.nf_model_laws.proofs.Totals.{IsThinFlow-sink, sink_takes}
pub use Rattle.nf_model_laws.proofs.Ways.{distinct_more, distinct_none, way_back}
pub use Rattle.nf_model_laws.specs.Capacity.{IsPositive}
pub use Rattle.nf_model_laws.specs.MemberLaws.{at_rate, one_link}
pub use Rattle.nf_net_def.specs.declared.Cause.{Cause}
pub use Rattle.nf_rational.specs.Operations.{0ℚ, 1ℚ, ◌*ℚ◌, ◌+ℚ◌, ◌-ℚ◌, ◌/ℚ◌}
pub use Rattle.nf_rational.specs.Order.{le_ℚ, lt_ℚ, max_ℚ, ◌<ℚ◌, ◌≤ℚ◌}
pub use Rattle.nf_rational.specs.Rational.{same_parts, ℚ}
pub use Rattle.nf_rational.specs.Signs.{are_opposite, is_positive, is_zero}
pub use Rattle.nf_rational_laws.proofs.Chains.{≤ℚ_refl, ≤ℚ_trans}
pub use Rattle.nf_rational_laws.proofs.Entries.{drop_entry, entry, last-append, same_entries, slice_get-image}
pub use Rattle.nf_rational_laws.proofs.Extremes.{max_is_left, max_is_right, max_left}
pub use Rattle.nf_rational_laws.proofs.Facts.{less_itself, plus_zero_le, term_of_zero, zero_plus}
pub use Rattle.nf_rational_laws.proofs.Linear.{eq, eq_times, le, le_times, linear_eq, linear_false, linear_le, linear_lt, lt}
pub use Rattle.nf_rational_laws.proofs.Naturals.{before_or_at, compared}
pub use Rattle.nf_rational_laws.proofs.Order.{<ℚ_irrefl, lt_or_le_ℚ, nn_plus, not_both_ℚ, ps_whole, ≤ℚ_antisymm, ≤ℚ_of_lt, ≤ℚ_of_same}
pub use Rattle.nf_rational_laws.proofs.Polynomial.{reading, reading_of, ring}
pub use Rattle.nf_rational_laws.proofs.Results.{IsOk-not_Err, None_of_test, Ok_not_Err, not_both, one_Err, or_rest, same_Err}
pub use Rattle.nf_rational_laws.proofs.Tests.{less_of_test, lt_ℚ_cases, max_ℚ_cases, test_of_le}
pub use Rattle.nf_thin_def.proofs.Examples.{link}
pub use Rattle.nf_thin_def.proofs.Runs.{first_standing, two_links}
pub use Rattle.nf_thin_def.specs.Accepted.{IsAccepted, pattern_lists}
pub use Rattle.nf_thin_def.specs.Advance.{Advanced, advance_list, cut_at, label_after}
pub use Rattle.nf_thin_def.specs.CurveList.{LinkPhase, LinkStep, QueueStep, link_phase, link_step, queue_step, rate_over, size_at, slope_at}
pub use Rattle.nf_thin_def.specs.Extend.{after_link, extend_list, least_after, to_zero, until_change}
pub use Rattle.nf_thin_def.specs.Listing.{HasPlace, IsListing, IsListingIn}
pub use Rattle.nf_thin_def.specs.PhaseRun.{Bounds, Fails, Goes, IsPhaseRun, IsRunReport, IsSearchHere, IsStart, PhaseStep, Runs, Seeks, Standing}
pub use Rattle.nf_thin_def.specs.PhaseRun.{at_horizon, at_lists, at_phases, at_search, at_slack, cause_of_search, fails, goes, phase_lists, report_of}
pub use Rattle.nf_thin_def.specs.PhaseRun.{standing_after}
pub use Rattle.nf_thin_def.specs.ReportCurves.{GrowingCurve, LinkCurves, amount_so_far, curves_after, first_curves, first_label_curve, first_queue}
pub use Rattle.nf_thin_def.specs.ReportCurves.{first_trace, label_curves_after, link_curves_after, queue_curve_after, trace_after, with_point}
pub use Rattle.nf_thin_def.specs.Search.{Answers, Found, IsFirstAccepted, IsFirstPassing, IsInVain, IsOverBudget, IsSearch, NoPattern, NoneAccepted}
pub use Rattle.nf_thin_def.specs.Search.{NoneAcceptedBefore, NonePasses, OverBudget, PassesAt, SearchAnswer}
pub use Rattle.nf_thin_laws.specs.ActiveLinks.{AreSets, EachIsEntered, HoldNoCycle, IsActiveWalk, NoneEntersSource}
pub use Rattle.nf_thin_laws.specs.Firm.{AllAscend, AreFirm, Ascend, IsKeeper, choices_by, firm_before, firm_earlier, if_allowed, is_in, states_by}
pub use Rattle.nf_thin_laws.specs.Forcing.{HasForced, IsForcing, change, entrywise, filled, forced_at, forced_by, forced_changes, forced_state, free_state}
pub use Rattle.nf_thin_laws.specs.Forcing.{given_state, now_resetting, sets_left, still_active, unforced_of}
pub use Rattle.nf_thin_laws.specs.NarrowLaws.{Narrows, NoneFilledBefore}
pub use Rattle.nf_thin_laws.specs.PatternLaws.{AllowState, EachIsLed, SolvesHomogeneous}
pub use Rattle.nf_thin_laws.specs.Ways.{AreIn, AreSole, Choices, IsIn, choices_of, left_ways, states_of, ways, ways_before, ways_below, ways_by}
pub use Rattle.nf_thin_laws.specs.Ways.{ways_earlier, ways_fewer}
pub use Rattle.std.proofs.lemmas.Bool.{cases_lt, eq-eqb, false≢true, true≢false}
pub use Rattle.std.proofs.lemmas.Bool.Decides.{eqb_tells, leb_tells}
pub use Rattle.std.proofs.lemmas.List.{append-nil, length-map, length-replicate}
pub use Rattle.std.proofs.lemmas.Option.{none-some, same_Some, slice_get-get_or, slice_get-map, slice_get_cases, slice_get_past, slice_get_within}
pub use Rattle.std.specs.List.{AllByRecursion, IsDistinct, enumerate_from, list_any}
