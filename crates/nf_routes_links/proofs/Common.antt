-- The names that most proofs of this crate cite, passed on from one place. Declares nothing.
pub use Rattle.nf_check_def.specs.Curves.{departures, last_value, loaded_at}
pub use Rattle.nf_curve.proofs.Exits.{after_err, after_ok, each_ends, each_goes, each_stops, err_before, front_err, front_none, ok_before, stops_on, was_ok}
pub use Rattle.nf_curve.specs.Points.{Grown}
pub use Rattle.nf_curve.specs.Sides.{sides_of}
pub use Rattle.nf_curve.specs.declared.lines.Sides.{Sides}
pub use Rattle.nf_curve_def.specs.Lines.{checked_line}
pub use Rattle.nf_curve_def.specs.Meanings.{IsComposedOf, IsShortOf, IsSumOf}
pub use Rattle.nf_curve_def.specs.Short.{checked_short}
pub use Rattle.nf_curve_def.specs.Sums.{checked_sum, sides_at}
pub use Rattle.nf_curve_def.specs.Times.{both_times}
pub use Rattle.nf_curve_laws.proofs.Operations.{is_same_cases, not_same, same_of, then_ok}
pub use Rattle.nf_curve_laws.proofs.Short.{checked_short-is}
pub use Rattle.nf_frac_def.proofs.Each.{with_front}
pub use Rattle.nf_frac_def.specs.Checked.{Checked, Gives, Stops, at_part, each, ◌>>=◌}
pub use Rattle.nf_frac_def.specs.Passing.{Passing, passes_Q}
pub use Rattle.nf_frac_def.specs.declared.Halt.{Halt}
pub use Rattle.nf_frac_def.specs.declared.Part.TheVariants.{Load}
pub use Rattle.nf_frac_def.specs.declared.PassedAt.{PassedAt}
pub use Rattle.nf_load.specs.Loadings.{loaded_of}
pub use Rattle.nf_load_def.specs.Cumulative.{checked_cumulative}
pub use Rattle.nf_load_def.specs.Loading.{Loaded, checked_loading}
pub use Rattle.nf_load_laws.proofs.Cumulative.{checked_cumulative-is, follows-values_rise}
pub use Rattle.nf_model.specs.Curve.{IsCurve, NeverFalls, Point, TimesRise, Within, value}
pub use Rattle.nf_model.specs.Network.{ArePieces, IsLink, IsNetwork, Link, Network, Piece, hops}
pub use Rattle.nf_model_laws.proofs.Curves.{NeverFalls-value, value-first}
pub use Rattle.nf_model_laws.proofs.Earliest.{IsPositive-link}
pub use Rattle.nf_model_laws.specs.CurveLaws.{ValuesRise}
pub use Rattle.nf_rational.specs.Operations.{0ℚ, ◌+ℚ◌}
pub use Rattle.nf_rational.specs.Order.{lt_ℚ, max_ℚ, ◌<ℚ◌, ◌≤ℚ◌}
pub use Rattle.nf_rational.specs.Rational.{ℚ}
pub use Rattle.nf_rational.specs.Signs.{is_same, is_zero}
pub use Rattle.nf_rational_laws.proofs.Chains.{≤ℚ_refl, ≤ℚ_trans}
pub use Rattle.nf_rational_laws.proofs.Entries.{drop_next, entry, set_same, slice_get-image}
pub use Rattle.nf_rational_laws.proofs.Order.{lt_or_le_ℚ, ≤ℚ_antisymm, ≤ℚ_of_lt}
pub use Rattle.nf_rational_laws.proofs.Results.{not_both, or_rest, same_Ok}
pub use Rattle.nf_routes_def.specs.Routes.{AreRoutes, HoldCircle, Route, all_pairs, is_taken, loading_order, pairs_of}
pub use Rattle.nf_routes_def.specs.RoutesFile.{NamedRoute, links_at, links_of, routes_of}
pub use Rattle.nf_routes_def.specs.RoutesList.{LoadedLink, SoFar, add_if, begin_all, begin_if, begins_at, but_last, end_by, exit_end, exit_of, goes_over}
pub use Rattle.nf_routes_def.specs.RoutesList.{last_entry, load_all, load_here, loaded_or, next_all, next_entry, next_from, next_if, sum_from, travel_on}
pub use Rattle.nf_routes_links.specs.Amounts.{AreExits, IsAmountCurve}
pub use Rattle.nf_routes_links.specs.Beginning.{HavePieces, all_loaded, first_entry, nothing_loaded, nothing_sent}
pub use Rattle.nf_routes_links.specs.Keeping.{all_kept, keeping_last, kept_after, last_alone, load_kept}
pub use Rattle.nf_routes_links.specs.Points.{AreKnown, AreThere, right_point}
pub use Rattle.nf_routes_links.specs.Standing.{ForEachRoute, IsFullyLoaded, MayBegin, MayLoad, Sends, seen_so_far}
pub use Rattle.nf_routes_links.specs.Travels.{AreTravels, GoOverAll, HaveExits, travel_along}
pub use Rattle.nf_routes_links.specs.declared.keeping.Kept.{Kept}
pub use Rattle.nf_routes_read.proofs.Pairs.{all_pairs_at, pairs_at, pairs_none, test}
pub use Rattle.nf_routes_read.proofs.Taking.{IsPlaced, order_placed, taken-push}
pub use Rattle.std.proofs.lemmas.Bool.Decides.{eqb_tells, nat_tests}
pub use Rattle.std.proofs.lemmas.List.{drop-drop, drop-set-lt, drop_all, length-map, length-set, length_push, map-append, map_push, take-append-drop}
pub use Rattle.std.proofs.lemmas.List.{take_all, take_more_set, with_items_is}
pub use Rattle.std.proofs.lemmas.Option.{none-some, same_Some, slice_get-get_or, slice_get_read, slice_get_within}
pub use Rattle.std.proofs.lemmas.Result.{err_from_is_err_and}
pub use Rattle.std.specs.List.{AllByRecursion, list_all, range_with_len}
