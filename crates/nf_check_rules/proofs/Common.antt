-- The names that most proofs of this crate cite, passed on from one place. Declares nothing.
pub use Rattle.nf_check_def.specs.CheckList.{arrivals, balance, compared, inflow_rule, label_cut, link_rates, loading, outflow_rule, queue_rule, route}
pub use Rattle.nf_check_def.specs.CheckList.{sink_rules}
pub use Rattle.nf_check_def.specs.Curves.{departures, greatest_value, last_value, least_so_far, loaded_at, no_amount, total_in, total_out, with_exit}
pub use Rattle.nf_check_def.specs.Curves.{with_inflow, with_outflow}
pub use Rattle.nf_check_def.specs.PointRules.{falling_from, if_other, inflow_fault, negative_point, rates_from, rates_list}
pub use Rattle.nf_check_def.specs.Routes.{all_stretches, at_end, at_middle, checked_middle, detour_list, on_rising, on_stretch, or_later, stretches_from}
pub use Rattle.nf_check_def.specs.Routes.{three_times}
pub use Rattle.nf_check_def.specs.Rules.{Holds, Inflow, nodes_but, numbers_of_links, numbers_of_nodes}
pub use Rattle.nf_check_def.specs.Trial.{Passes, Trial, in_part, unless}
pub use Rattle.nf_check_def.specs.declared.CheckRule.TheVariants.{C1, C2, C3, C6, C7, C8}
pub use Rattle.nf_check_def.specs.declared.Subject.{Subject}
pub use Rattle.nf_check_def.specs.declared.Subject.TheVariants.{Node}
pub use Rattle.nf_check_laws.proofs.Points.{IsLabel, cut_of, decides-inflow, greatest_nn, label-cut, max-left, negative-none, value_from_all}
pub use Rattle.nf_check_rules.specs.Departures.{IsSentDeparture}
pub use Rattle.nf_check_rules.specs.Exits.{AreStored, KeepsExits, exits_by_departure}
pub use Rattle.nf_check_rules.specs.Kept.{IsFromZero, IsWorked, loadings_of, points_of_each}
pub use Rattle.nf_check_rules.specs.Points.{first_fall, first_value}
pub use Rattle.nf_check_rules.specs.Sent.{ArePlaces, ArePlacesWithin, AreSentCurves, KeepSlopes, detours_of, exits_of, first_time, known_on_link, points_in}
pub use Rattle.nf_check_rules.specs.Sent.{sent_on_link, short_exits, stretches_of, three_after}
pub use Rattle.nf_check_rules.specs.Steps.{compared_by, stays_by, with_supply_by}
pub use Rattle.nf_check_rules.specs.Trials.{EndsAs, Tries, done, of_halt}
pub use Rattle.nf_check_rules.specs.Views.{flow_in, in_view, labels_in, loaded_in, network_in}
pub use Rattle.nf_check_rules.specs.declared.ended.Ended.{Ended}
pub use Rattle.nf_check_rules.specs.declared.exits.Exits.{Exits}
pub use Rattle.nf_check_rules.specs.declared.sent.Places.{Places}
pub use Rattle.nf_check_rules.specs.declared.sent.Sent.{Sent}
pub use Rattle.nf_curve.proofs.Exits.{after_err, after_ok, stops_on, was_ok}
pub use Rattle.nf_curve.proofs.Placing.{curve-rises, place-rises, place_within, times_apart}
pub use Rattle.nf_curve.specs.Differences.{difference_of}
pub use Rattle.nf_curve.specs.Flows.{seen_flow, seen_trace}
pub use Rattle.nf_curve.specs.Points.{Grown}
pub use Rattle.nf_curve.specs.declared.curve.Difference.{Difference}
pub use Rattle.nf_curve.specs.declared.flow.Trace.{Trace}
pub use Rattle.nf_curve_def.specs.Composed.{checked_composed}
pub use Rattle.nf_curve_def.specs.Lines.{Sides, checked_line, checked_slope}
pub use Rattle.nf_curve_def.specs.Short.{checked_short}
pub use Rattle.nf_curve_def.specs.Sums.{checked_sum, sides_at}
pub use Rattle.nf_curve_def.specs.Values.{checked_cut, checked_value, value_from}
pub use Rattle.nf_frac_def.proofs.Each.{each_ok, fold_ok, no_front, with_front}
pub use Rattle.nf_frac_def.specs.Checked.{Checked, Gives, Stops, at_part, checked, each, fold_checked, placed, ◌>>=◌}
pub use Rattle.nf_frac_def.specs.Passing.{Passing, passes_Q}
pub use Rattle.nf_frac_def.specs.declared.Halt.{Halt}
pub use Rattle.nf_frac_def.specs.declared.Part.TheVariants.{Check, Load}
pub use Rattle.nf_frac_def.specs.declared.PassedAt.{PassedAt}
pub use Rattle.nf_load.specs.Loadings.{loaded_of}
pub use Rattle.nf_load.specs.declared.loading.Loaded.{Loaded}
pub use Rattle.nf_load_def.specs.Cumulative.{checked_cumulative}
pub use Rattle.nf_model.specs.Curve.{IsCurve, NeverFalls, Point, TimesRise, value}
pub use Rattle.nf_model.specs.Equilibrium.{Flow, points_at, points_of}
pub use Rattle.nf_model.specs.Network.{IsLink, Link, Network}
pub use Rattle.nf_rational.specs.Operations.{0ℚ, 1ℚ, whole, ◌*ℚ◌, ◌+ℚ◌, ◌/ℚ◌}
pub use Rattle.nf_rational.specs.Order.{lt_ℚ, max_ℚ, min_ℚ, ◌<ℚ◌, ◌≤ℚ◌}
pub use Rattle.nf_rational.specs.Rational.{ℚ}
pub use Rattle.nf_rational_laws.proofs.Chains.{≤ℚ_trans}
pub use Rattle.nf_rational_laws.proofs.Entries.{drop_next, set_cases, slice_get-image}
pub use Rattle.nf_rational_laws.proofs.Order.{not_both_ℚ, ≤ℚ_antisymm, ≤ℚ_of_lt, ≤ℚ_of_same}
pub use Rattle.std.proofs.lemmas.List.{drop_all, drop_more, length-map, length-replicate, length-set, map-append, replicate_more, take_more}
pub use Rattle.std.proofs.lemmas.Option.{get_or_from_slice_get, same_Some, slice_get_read, slice_get_within}
pub use Rattle.std.proofs.lemmas.Result.{IfOk-from_err, err_from_is_err_and}
pub use Rattle.std.specs.List.{AllByRecursion, enumerate_from, range_with_len}
