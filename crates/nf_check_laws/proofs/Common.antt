-- The names that most proofs of this crate cite, passed on from one place. Declares nothing.
pub use Rattle.nf_check_def.specs.CheckList.{arrival_at, arrivals, balance, compared, first_value, inflow_rule, label_cut, link_rates, loading}
pub use Rattle.nf_check_def.specs.CheckList.{outflow_rule, queue_rule, route, sink_rules, trace_of, with_supply}
pub use Rattle.nf_check_def.specs.Curves.{departures, greatest_value, last_value, least_exits, least_so_far, loaded_at, no_amount, total_in, total_out}
pub use Rattle.nf_check_def.specs.Curves.{with_exit, with_inflow, with_outflow}
pub use Rattle.nf_check_def.specs.PointRules.{falling_from, if_other, inflow_fault, negative_point, rates_from, rates_list}
pub use Rattle.nf_check_def.specs.Rules.{Arrivals, Balance, Breaks, BreaksFirst, Checks, DifferFirstBy, DiffersFromRight, ExitAt, HasOtherRate, Holds}
pub use Rattle.nf_check_def.specs.Rules.{Inflow, InflowRates, IsArrival, IsExtra, IsInWithSupply, IsInflowSum, IsLeastExit, IsNegative, IsOut, IsStretch}
pub use Rattle.nf_check_def.specs.Rules.{IsTest, Label, LeavesRoute, NoneFalls, Outflow, OutflowRates, Queue, RatesFit, Route, SinkAfter, SinkBefore}
pub use Rattle.nf_check_def.specs.Rules.{TakesDetour, Test, end_at, group_of, nodes_but, numbers_of_links, numbers_of_nodes, rule_of, subject_of}
pub use Rattle.nf_check_def.specs.Rules.{test_number}
pub use Rattle.nf_check_def.specs.Trial.{Trial, in_part, unless}
pub use Rattle.nf_check_def.specs.declared.Answer.{Answer}
pub use Rattle.nf_check_def.specs.declared.CheckRule.TheVariants.{C1, C2, C3, C6, C7, C8}
pub use Rattle.nf_check_def.specs.declared.Subject.{Subject}
pub use Rattle.nf_check_def.specs.declared.Subject.TheVariants.{Node}
pub use Rattle.nf_check_laws.specs.Laws.{AllHold, CanBeChecked}
pub use Rattle.nf_curve_def.specs.Composed.{checked_composed}
pub use Rattle.nf_curve_def.specs.Differences.{checked_difference, do_differ}
pub use Rattle.nf_curve_def.specs.Lines.{Sides, checked_slope}
pub use Rattle.nf_curve_def.specs.Meanings.{Agree, DifferFirst, IsComposedOf, IsDifference, IsLeastOf, IsSumOf}
pub use Rattle.nf_curve_def.specs.Sums.{checked_sum, sides_at}
pub use Rattle.nf_curve_def.specs.Values.{checked_cut, checked_value, points_before}
pub use Rattle.nf_curve_laws.proofs.Composed.{affine_at_least, checked_composed-end, checked_composed-is}
pub use Rattle.nf_curve_laws.proofs.Differences.{any_first, any_later, any_more, any_none, checked_difference-is, negated}
pub use Rattle.nf_curve_laws.proofs.Following.{EndsAtTime, FollowsFrom, end_time, ends, follows-end, follows-last, follows-point, goes}
pub use Rattle.nf_curve_laws.proofs.Operations.{apart_of, checked-is, checked_slope-is, is_same_cases, then_ok}
pub use Rattle.nf_curve_laws.proofs.Short.{checked_short-end, checked_short-is, end-one, short-turns, times-up_to}
pub use Rattle.nf_curve_laws.proofs.Sums.{checked_sum-is}
pub use Rattle.nf_curve_laws.proofs.Turning.{affine_between}
pub use Rattle.nf_curve_laws.proofs.Values.{Cut, checked_cut-exact, checked_value-is, cut-follows, follows-curve, follows-values}
pub use Rattle.nf_frac_def.specs.Checked.{Checked, checked, each, fold_checked, ◌>>=◌}
pub use Rattle.nf_frac_def.specs.Passing.{Passing}
pub use Rattle.nf_frac_def.specs.declared.Part.TheVariants.{Check, Load}
pub use Rattle.nf_load_def.specs.Loading.{Loaded, checked_loading}
pub use Rattle.nf_load_def.specs.Meanings.{IsCumulative, IsLoaded}
pub use Rattle.nf_model.specs.Curve.{AreSlopes, IsCorner, IsCurve, IsShort, NeverFalls, Point, TimesRise, TurnsAt, Within, slope, value}
pub use Rattle.nf_model.specs.Earliest.{Arrives, IsEarliest}
pub use Rattle.nf_model.specs.Equilibrium.{Balances, Conserves, Equilibrium, Flow, HasShape, TakesFlow, Trace, inflow, label, points_at, points_of}
pub use Rattle.nf_model.specs.Network.{IsLink, IsNetwork, Link, Network, hops, sum_in, sum_out, supply}
pub use Rattle.nf_model.specs.Queue.{IsExit, IsOutflow, IsQueue}
pub use Rattle.nf_model_laws.proofs.Affine.{IsAffine-nn, IsAffine-same, quotient-times, same_from_times}
pub use Rattle.nf_model_laws.proofs.Curves.{IsCurve-rises, NeverFalls-value, TimesRise-rest, by_first, first_before, slope-unique, value-after, value-first}
pub use Rattle.nf_model_laws.proofs.Curves.{value-line, value-point}
pub use Rattle.nf_model_laws.proofs.Earliest.{AreLabels-report, IsEarliest-forward, IsEarliest-label, IsPositive-link}
pub use Rattle.nf_model_laws.proofs.Exists.{HasExit-curve}
pub use Rattle.nf_model_laws.proofs.Queues.{IsExit-after, IsExit-monotone, IsExit-unique, IsOutflow-unique, IsQueue-unique}
pub use Rattle.nf_model_laws.proofs.Sums.{sum_in-same, sum_out-same}
pub use Rattle.nf_model_laws.specs.Affine.{IsAffine}
pub use Rattle.nf_model_laws.specs.EarliestLaws.{AreLabels, InflowsRise}
pub use Rattle.nf_rational.specs.Operations.{0ℚ, whole, ◌*ℚ◌, ◌+ℚ◌, ◌-ℚ◌, ◌/ℚ◌}
pub use Rattle.nf_rational.specs.Order.{lt_ℚ, max_ℚ, min_ℚ, ◌<ℚ◌, ◌≤ℚ◌}
pub use Rattle.nf_rational.specs.Rational.{ℚ}
pub use Rattle.nf_rational.specs.Signs.{is_same}
pub use Rattle.nf_rational_laws.proofs.Chains.{<_≤_trans, ≤ℚ_refl, ≤ℚ_trans}
pub use Rattle.nf_rational_laws.proofs.Facts.{le_of_gap, nn_above_sum, plus_zero}
pub use Rattle.nf_rational_laws.proofs.Linear.{eq, eq_times, le, le_times, linear_eq, linear_false, linear_le, linear_lt, lt}
pub use Rattle.nf_rational_laws.proofs.Order.{less_nn, less_ps, lt_or_le_ℚ, not_both_ℚ, ps_times, ps_whole, ≤ℚ_antisymm, ≤ℚ_of_lt, ≤ℚ_of_same}
pub use Rattle.nf_rational_laws.proofs.Polynomial.{reading_of}
pub use Rattle.nf_rational_laws.proofs.Results.{same_Ok}
pub use Rattle.nf_rational_laws.proofs.Tests.{lt_ℚ_cases, min_ℚ_cases}
pub use Rattle.std.proofs.lemmas.Bool.{cases_Bool, cases_eq, cases_order, eq-eqb, eqb-false, eqb-true}
pub use Rattle.std.proofs.lemmas.List.{length-map}
pub use Rattle.std.proofs.lemmas.Option.{same_Some, slice_get_within}
pub use Rattle.std.specs.List.{AllByRecursion, enumerate_from, range_with_len}
