-- The names that most proofs of this crate cite, passed on from one place. Declares nothing.
pub use Rattle.nf_frac_def.proofs.Exact.{checked-is, checked-never}
pub use Rattle.nf_frac_def.specs.Checked.{Checked, checked, each, fold_checked, ◌>>=◌}
pub use Rattle.nf_frac_def.specs.Passing.{Passing, never, result_of}
pub use Rattle.nf_frac_def.specs.declared.Op.TheVariants.{Difference, Product, Quotient, Sum}
pub use Rattle.nf_model.proofs.Entries.{number_at-zeros}
pub use Rattle.nf_model.specs.Entries.{number_at}
pub use Rattle.nf_model.specs.Network.{ArePieces, IsLink, IsNetwork, Link, Network, Piece, hop_of, hops, sum_in, sum_out, supplied}
pub use Rattle.nf_model.specs.Quickest.{Delivers, Fed, IsAmount, IsCut, IsFeasible, IsQuickest, come, cut_sum, cut_value, delivered, entered_along}
pub use Rattle.nf_model.specs.Quickest.{entered_by, left_by, let_through}
pub use Rattle.nf_model.specs.Walk.{Hop, IsWalk, transit_of, transit_sum}
pub use Rattle.nf_model_laws.proofs.Affine.{IsAffine-plus, le_from_times, nn-quotient, quotient-times}
pub use Rattle.nf_model_laws.proofs.Networks.{hop_at, link_at, transit_of-is}
pub use Rattle.nf_model_laws.proofs.Potential.{EndsBelow, carried, carried-is, only_at, only_at-else, only_at-here, out_less_in, sum_to, sum_to-at}
pub use Rattle.nf_model_laws.proofs.Potential.{sum_to-nn, sum_to-only, sum_to-plus, sum_to-same, sum_to-zero}
pub use Rattle.nf_model_laws.proofs.Sums.{HasIn, HasOut, sum_in-each, sum_in-line, sum_in-none, sum_in-same, sum_in-some, sum_out-each, sum_out-line}
pub use Rattle.nf_model_laws.proofs.Sums.{sum_out-nn, sum_out-none, sum_out-same, sum_out-some}
pub use Rattle.nf_model_laws.proofs.Ways.{distinct_more, distinct_none, few_below, way_back}
pub use Rattle.nf_model_laws.specs.Affine.{IsAffine}
pub use Rattle.nf_quick_def.specs.Answers.{AreLeastLengths, IsFedWithin, IsQuickFlow, IsRoom, IsShortest, IsShortestWalk}
pub use Rattle.nf_quick_def.specs.Cuts.{at_most, let_by, node_time, node_time_at, node_times_list, value_after, value_along, value_list}
pub use Rattle.nf_quick_def.specs.Flows.{IsSound, cost_from, cost_of, flow_value}
pub use Rattle.nf_quick_def.specs.InOrder.{ArePushed, ComesOfPushes, EndsAtBudget, IsEarly, IsFullPush, no_flow}
pub use Rattle.nf_quick_def.specs.NodeTimes.{AreNodeTimes, IsCandidate, IsNodeTime}
pub use Rattle.nf_quick_def.specs.Order.{AreFewerOrFirst, AreFirst, IsAtMost, Reach, are_before, are_fewer_or_before, is_better}
pub use Rattle.nf_quick_def.specs.Pushed.{IsPushed, crossed}
pub use Rattle.nf_quick_def.specs.Pushes.{Times, push_list, push_step}
pub use Rattle.nf_quick_def.specs.Quick.{Augment, Budget, Done, FoundQuick, OverBudget, Pushed, Quick, QuickOutcome, QuickStanding, answer_list, ended}
pub use Rattle.nf_quick_def.specs.Quick.{is_early, next_list, next_of, nothing, push_and, push_on, push_up_to, quickest_of, start_of}
pub use Rattle.nf_quick_def.specs.Rounds.{Known, Walk, along, along_step, better_of, capacity_of, distances_list, first_known, known_at, lesser, offered}
pub use Rattle.nf_quick_def.specs.Rounds.{op_of, reaches_list, room_after, room_along, rounds_list, shortest_list, steps_from, with_room}
pub use Rattle.nf_quick_def.specs.Shortest.{HasRoom, HasRoomAlong, HasRoomOn, IsFirstWalk, IsLeastLength, reach_of}
pub use Rattle.nf_quick_def.specs.Steps.{IsLimited, IsResidualWalk, IsUnboundedWalk, Leads, Step, begin_of, can_go, directed, end_of, is_below, place}
pub use Rattle.nf_quick_def.specs.Steps.{step_length, walk_length}
pub use Rattle.nf_quick_def.specs.Through.{cost_along, rate_of, through, through_walk}
pub use Rattle.nf_quick_def.specs.Walks.{first_out, head_of, least_along, take_link, take_list, walk_and, walks_off, way_from, way_out}
pub use Rattle.nf_quick_laws.specs.ResidualLaws.{EachHasLeast, IsFoundAt, IsPush, NoneNegative}
pub use Rattle.nf_rational.specs.Operations.{0ℚ, 1ℚ, ◌*ℚ◌, ◌+ℚ◌, ◌-ℚ◌, ◌/ℚ◌}
pub use Rattle.nf_rational.specs.Order.{le_ℚ, lt_ℚ, max_ℚ, min_ℚ, ◌<ℚ◌, ◌≤ℚ◌}
pub use Rattle.nf_rational.specs.Rational.{same_parts, ℚ}
pub use Rattle.nf_rational_laws.proofs.Chains.{<_≤_trans, <ℚ_trans, ≤ℚ_refl, ≤ℚ_trans}
pub use Rattle.nf_rational_laws.proofs.Extremes.{max_keeps, max_left, max_right, min_is_left, min_is_right, min_keeps, min_left, min_right}
pub use Rattle.nf_rational_laws.proofs.Facts.{both_are_zero, first_and_zero, gap_np, less_itself, less_le, moved_by_one, moved_by_zero, plus_zero}
pub use Rattle.nf_rational_laws.proofs.Facts.{plus_zero_le, plus_zero_times, same_differences, same_sums, same_terms, second_is_zero, sum_le, sum_of_sum}
pub use Rattle.nf_rational_laws.proofs.Facts.{term_and_none, term_and_zero, term_of_zero, times_le, times_second_zero, without_zero, zero_less_zero}
pub use Rattle.nf_rational_laws.proofs.Facts.{zero_not_above, zero_of_times_zero, zero_of_zero_times, zero_plus}
pub use Rattle.nf_rational_laws.proofs.Linear.{eq, eq_times, le, le_times, linear_eq, linear_false, linear_le, linear_lt, lt}
pub use Rattle.nf_rational_laws.proofs.Order.{less_nn, less_ps, lt_or_le_ℚ, nn_plus, nn_times, nn_whole, not_both_ℚ, ps_times, ps_whole, some_or_none}
pub use Rattle.nf_rational_laws.proofs.Order.{≤ℚ_antisymm, ≤ℚ_of_lt, ≤ℚ_of_same}
pub use Rattle.nf_rational_laws.proofs.Polynomial.{reading_of}
pub use Rattle.nf_rational_laws.proofs.Results.{not_both, or_rest, same_Ok}
pub use Rattle.nf_rational_laws.proofs.Signs.{first_is_zero, nn_plus_ps}
pub use Rattle.nf_rational_laws.proofs.Tests.{le_of_test, less_of_test, lt_of_test, lt_ℚ_cases, max0_none, max0_of, max_ℚ_cases, min_ℚ_cases}
pub use Rattle.nf_rational_laws.proofs.Tests.{not_less_of_test, test_of_less}
pub use Rattle.std.proofs.lemmas.Bool.{and_cases, and_parts, eqb-false, eqb-true, false≢true, ltb-false, ltb-true, not-false, not-true, or_parts}
pub use Rattle.std.proofs.lemmas.Bool.Decides.{eqb_tells, leb_tells}
pub use Rattle.std.proofs.lemmas.List.{append-nil, length-map, length-replicate, length-set}
pub use Rattle.std.proofs.lemmas.Option.{none-some, same_Some, slice_get-map, slice_get_past, slice_get_within}
pub use Rattle.std.specs.List.{AllByRecursion, IsDistinct, enumerate_from, list_any}
