-- The names that most proofs of this crate cite, passed on from one place. Declares nothing.
pub use Rattle.nf_complete_def.specs.Cancelling.{Cancels, Settles, cancels, change_at, change_on, full_at, full_on, fulls_list, least_room, lesser_room}
pub use Rattle.nf_complete_def.specs.Cancelling.{no_cycle, passes_at, room_at, room_on, settles, stops}
pub use Rattle.nf_complete_def.specs.Interior.{IsCycle, IsInterior, IsNextCycle, links_of, turn_of}
pub use Rattle.nf_complete_def.specs.SettledPattern.{IsBare, IsFirstLevel, IsSettledPattern, LeadsToBare}
pub use Rattle.nf_complete_laws.specs.ExistenceLaws.{ThinFlowExists}
pub use Rattle.nf_complete_laws.specs.Oversupply.{Fits, IsOversupply, OversupplyExists, ResetsAreBounded, demand}
pub use Rattle.nf_complete_laws.specs.SettleLaws.{AreGoodSets}
pub use Rattle.nf_frac_def.proofs.Binding.{bind_at, bind_ok}
pub use Rattle.nf_frac_def.proofs.Exact.{checked-is, checked-never, same_value}
pub use Rattle.nf_frac_def.specs.Checked.{Checked, checked, each, ◌>>=◌}
pub use Rattle.nf_frac_def.specs.Passing.{Passing, never, result_of}
pub use Rattle.nf_frac_def.specs.declared.Op.TheVariants.{Difference, Product, Sum}
pub use Rattle.nf_linear_laws.proofs.Choices.{LeastOfTwo, MeetsOne, least_of_two}
pub use Rattle.nf_linear_laws.proofs.Forms.{form_value-append, form_value-less, form_value-scaled, form_value-variable, less, scaled, variable}
pub use Rattle.nf_linear_laws.specs.Systems.{AtMost, Form, MeetsAll, form_value}
pub use Rattle.nf_model.specs.Entries.{Has, number_at}
pub use Rattle.nf_model.specs.Network.{IsLink, IsNetwork, Link, Network, hop_of, hops, rate_at, sum_in, sum_out, unbounded}
pub use Rattle.nf_model.specs.Pattern.{AllDiffer, Equation, Fills, HasState, Inequality, IsForest, IsListedIn, IsPattern, IsSolution, IsSolvable, IsTrail}
pub use Rattle.nf_model.specs.Pattern.{Meets, NeedsState, Pattern, Solves}
pub use Rattle.nf_model.specs.ThinFlow.{Enters, IsThinFlow, Sets, exit_slope, exit_slope_at, sets_at, slack, surplus}
pub use Rattle.nf_model.specs.Walk.{Hop, IsHop, IsWalk}
pub use Rattle.nf_model.specs.declared.State.{State}
pub use Rattle.nf_model.specs.declared.State.TheVariants.{Full, Tight, Zero}
pub use Rattle.nf_model_laws.proofs.Affine.{le_from_times, nn-quotient, quotient-times}
pub use Rattle.nf_model_laws.proofs.Contained.{contains_cases, contains_first, contains_more, contains_none, not_any}
pub use Rattle.nf_model_laws.proofs.Earliest.{IsPositive-link}
pub use Rattle.nf_model_laws.proofs.Networks.{IsLink-unique, hop_at, link_at, number_at-is}
pub use Rattle.nf_model_laws.proofs.Potential.{only_at, only_at-else, only_at-here, out_less_in, sum_to, sum_to-nn}
pub use Rattle.nf_model_laws.proofs.Slacks.{active_of_slack, resetting_of_slack, slack_of_resetting}
pub use Rattle.nf_model_laws.proofs.Sums.{HasIn, sum_in-each, sum_in-line, sum_in-none, sum_in-order, sum_in-same, sum_in-some, sum_out-each, sum_out-line}
pub use Rattle.nf_model_laws.proofs.Sums.{sum_out-none, sum_out-order, sum_out-same}
pub use Rattle.nf_model_laws.proofs.Totals.{IsThinFlow-sink, all_zero, two_cancel}
pub use Rattle.nf_model_laws.proofs.Ways.{distinct_more, distinct_none, way_back}
pub use Rattle.nf_model_laws.specs.Capacity.{IsPositive}
pub use Rattle.nf_rational.specs.Operations.{0ℚ, 1ℚ, ◌*ℚ◌, ◌+ℚ◌, ◌-ℚ◌, ◌/ℚ◌}
pub use Rattle.nf_rational.specs.Order.{min_ℚ, ◌<ℚ◌, ◌≤ℚ◌}
pub use Rattle.nf_rational.specs.Rational.{ℚ}
pub use Rattle.nf_rational_laws.proofs.Chains.{≤ℚ_refl, ≤ℚ_trans}
pub use Rattle.nf_rational_laws.proofs.Entries.{entry, same_entries, slice_get-image}
pub use Rattle.nf_rational_laws.proofs.Extremes.{min_keeps, min_left, min_right}
pub use Rattle.nf_rational_laws.proofs.Facts.{less_itself, less_some_le, moved_by_zero, nn_less_part, nn_of_one, same_differences, sum_le, sum_le_lt}
pub use Rattle.nf_rational_laws.proofs.Facts.{sum_lt_le, times_le, zero_plus}
pub use Rattle.nf_rational_laws.proofs.Linear.{eq, eq_times, le, le_times, linear_eq, linear_false, linear_le, linear_lt, lt}
pub use Rattle.nf_rational_laws.proofs.Naturals.{before_or_at}
pub use Rattle.nf_rational_laws.proofs.Order.{less_ps, lt_or_le_ℚ, nn_plus, nn_times, not_both_ℚ, ps_times, ps_whole, some_or_none, ≤ℚ_antisymm, ≤ℚ_of_lt}
pub use Rattle.nf_rational_laws.proofs.Order.{≤ℚ_of_same}
pub use Rattle.nf_rational_laws.proofs.Polynomial.{reading_of}
pub use Rattle.nf_rational_laws.proofs.Quotient.{/ℚ-times, /ℚ_is, ps_apart, ps_inv}
pub use Rattle.nf_rational_laws.proofs.Results.{Ok_not_Err, not_both, one_Err, or_rest, same_Ok}
pub use Rattle.nf_thin_def.specs.Search.{Found, IsSearch, NoPattern, OverBudget, PassesAt, SearchAnswer}
pub use Rattle.nf_thin_laws.proofs.ActiveLinks.{AreSets-sets_at, HoldNoCycle-sets_at, NoneEntersSource-acyclic, Way, no_way_round, none_first, way_more}
pub use Rattle.nf_thin_laws.proofs.ExitSlopes.{exit_full, exit_resetting, exit_tight, exit_zero}
pub use Rattle.nf_thin_laws.proofs.Flags.{entry_beyond, flag, flag-cases, number_at-beyond}
pub use Rattle.nf_thin_laws.proofs.Forests.{Carries, Dart, forest-none}
pub use Rattle.nf_thin_laws.proofs.LinkLaws.{LinkLaw}
pub use Rattle.nf_thin_laws.proofs.Slopes.{link_law}
pub use Rattle.nf_thin_laws.specs.ActiveLinks.{AreSets, EachIsEntered, HoldNoCycle, IsActiveWalk}
pub use Rattle.std.proofs.lemmas.Bool.{cases_lt, eqb-true}
pub use Rattle.std.proofs.lemmas.Bool.Decides.{eqb_tells}
pub use Rattle.std.proofs.lemmas.List.FromFn.{get_or-map-range_with_len, length-map-range_with_len}
pub use Rattle.std.proofs.lemmas.Map.Steps.{length-le_from_distinct_below}
pub use Rattle.std.proofs.lemmas.Option.{none-some, same_Some, slice_get-get_or, slice_get-map, slice_get_within}
pub use Rattle.std.specs.List.{IsDistinct, enumerate_from, list_any, range_with_len}
