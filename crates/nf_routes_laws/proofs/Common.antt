-- The names that most proofs of this crate cite, passed on from one place. Declares nothing.
pub use Rattle.nf_check_def.specs.Curves.{departures, last_value}
pub use Rattle.nf_curve_def.specs.Lines.{Sides}
pub use Rattle.nf_curve_def.specs.Meanings.{IsComposedOf, IsShortOf, IsSumOf}
pub use Rattle.nf_curve_def.specs.Short.{checked_short, checked_slopes, short_points, turning}
pub use Rattle.nf_curve_def.specs.Sums.{sides_at}
pub use Rattle.nf_curve_def.specs.Times.{both_times, merged, times_of}
pub use Rattle.nf_curve_laws.proofs.Following.{EndsAtTime, end_time, follows-end}
pub use Rattle.nf_curve_laws.proofs.Operations.{is_same_cases, then_ok}
pub use Rattle.nf_curve_laws.proofs.Pieces.{AreSides, left_affine, left_flat, right_affine, sides_at-is}
pub use Rattle.nf_curve_laws.proofs.Short.{checked_short-end, checked_short-is, times-up_to}
pub use Rattle.nf_curve_laws.proofs.Times.{AreNext, IsOne, NextOnes, both_times-next, merged-one}
pub use Rattle.nf_frac_def.specs.Checked.{each, ◌>>=◌}
pub use Rattle.nf_frac_def.specs.Passing.{Passing}
pub use Rattle.nf_load_def.specs.Cumulative.{checked_cumulative, cumulative_from, piece_end, point_after_0, point_if_after_0, with_piece}
pub use Rattle.nf_load_def.specs.Loading.{Loaded, checked_loading}
pub use Rattle.nf_load_def.specs.Meanings.{IsCumulative, IsLoaded}
pub use Rattle.nf_load_laws.proofs.Cumulative.{checked_cumulative-is, cumulative_done, cumulative_more}
pub use Rattle.nf_load_laws.proofs.Loading.{ExitPoints, checked_loading-is, exit_points}
pub use Rattle.nf_model.specs.Curve.{IsCurve, IsShort, NeverFalls, Point, TimesRise, Within, slope, value}
pub use Rattle.nf_model.specs.Entries.{number_at}
pub use Rattle.nf_model.specs.Network.{ArePieces, IsLink, IsNetwork, Link, Network, Piece, hop_of, hops, supplied}
pub use Rattle.nf_model.specs.Queue.{IsExit, IsOutflow, IsQueue}
pub use Rattle.nf_model.specs.Walk.{IsWalk}
pub use Rattle.nf_model_laws.proofs.Affine.{same_from_times}
pub use Rattle.nf_model_laws.proofs.Curves.{slope-times, value-after, value-first, value-line, value-takes_between}
pub use Rattle.nf_model_laws.proofs.Earliest.{IsPositive-link}
pub use Rattle.nf_model_laws.proofs.Exits.{IsExit-at_0, IsOutflow-at_exit}
pub use Rattle.nf_model_laws.proofs.Networks.{IsLink-unique, link_at}
pub use Rattle.nf_model_laws.proofs.Queues.{IsExit-after, IsExit-monotone, IsExit-same, IsOutflow-early, IsOutflow-same, IsOutflow-unique, IsQueue-same}
pub use Rattle.nf_model_laws.specs.Capacity.{IsPositive}
pub use Rattle.nf_net_def.specs.Named.{Named}
pub use Rattle.nf_net_def.specs.Names.{AreNames, Name, has_name, is_name, place_of}
pub use Rattle.nf_rational.specs.Operations.{0ℚ, 1ℚ, ◌*ℚ◌, ◌+ℚ◌, ◌-ℚ◌}
pub use Rattle.nf_rational.specs.Order.{lt_ℚ, max_ℚ, ◌<ℚ◌, ◌≤ℚ◌}
pub use Rattle.nf_rational.specs.Rational.{ℚ}
pub use Rattle.nf_rational.specs.Signs.{is_same, is_zero}
pub use Rattle.nf_rational_laws.proofs.Chains.{≤ℚ_refl, ≤ℚ_trans}
pub use Rattle.nf_rational_laws.proofs.Entries.{entry, set_same, slice_get-image}
pub use Rattle.nf_rational_laws.proofs.Facts.{both_are_zero, first_of_sum, plus_zero, same_sums, second_is_zero, sum_le, without_zero}
pub use Rattle.nf_rational_laws.proofs.Linear.{eq, eq_times, le, linear_eq, linear_le}
pub use Rattle.nf_rational_laws.proofs.Naturals.{before_or_at, compared}
pub use Rattle.nf_rational_laws.proofs.Order.{less_ps, lt_or_le_ℚ, ≤ℚ_antisymm, ≤ℚ_of_lt, ≤ℚ_of_same}
pub use Rattle.nf_rational_laws.proofs.Polynomial.{reading_of}
pub use Rattle.nf_rational_laws.proofs.Results.{not_both, same_Ok, true_or_false}
pub use Rattle.nf_rational_laws.proofs.Tests.{lt_ℚ_cases, max_ℚ_cases}
pub use Rattle.nf_report_laws.proofs.FrameKept.{draft_kept, file_is, no_rule, rules_out}
pub use Rattle.nf_report_laws.proofs.Outcomes.{both_ok, where_false, where_true}
pub use Rattle.nf_routes_def.specs.Kept.{AreInForm, AreSound, KeepRules}
pub use Rattle.nf_routes_def.specs.Meanings.{IsEnd, IsRouted, RoutesArrive, arrival_at, entry_at, exit_by, exits_along, inflow_by, link_loaded, sent_along}
pub use Rattle.nf_routes_def.specs.Meanings.{sent_by, sent_by_routes, stages_at, travel_at}
pub use Rattle.nf_routes_def.specs.Routes.{AreRoutes, AreWalks, HoldCircle, LeadsOverRoutes, PrecedesOnRoute, Route, all_pairs, first_free, is_free}
pub use Rattle.nf_routes_def.specs.Routes.{is_taken, order_from, pairs_of, with_next}
pub use Rattle.nf_routes_def.specs.RoutesFile.{End, HoldsCircleIn, NamedRoute, RateLine, ReadsRoutes, RouteLine, RoutesBroken, RoutesDraft, RoutesEntry}
pub use Rattle.nf_routes_def.specs.RoutesFile.{add_route_line, circle_broken, end_line, head_of, is_ordered, is_walk, longer, pieces_at, pieces_of}
pub use Rattle.nf_routes_def.specs.RoutesFile.{rate_line, route_line, route_names, routes_after, routes_ended, routes_entry, routes_frame, routes_of}
pub use Rattle.nf_routes_def.specs.RoutesFile.{routes_rule_of, rule_behind, tail_is, unless_circle}
pub use Rattle.nf_routes_def.specs.RoutesList.{LoadedLink, Routed, SoFar, add_if, begin_all, begin_if, begins_at, but_last, end_by, end_or, exit_end}
pub use Rattle.nf_routes_def.specs.RoutesList.{exit_of, goes_over, last_entry, load_all, load_here, loaded_or, next_all, next_entry, next_from, next_if}
pub use Rattle.nf_routes_def.specs.RoutesList.{sum_from, travel_on}
pub use Rattle.nf_routes_def.specs.declared.RoutesRule.{RoutesRule}
pub use Rattle.nf_routes_def.specs.declared.RoutesRule.TheVariants.{G10, G11, G12, G13, G14, G15, G16, G17, G3, G4, G5, G7, G8, G9}
pub use Rattle.nf_routes_laws.specs.Laws.{CanShare, IsSentOn, NoneBeyond}
pub use Rattle.nf_side_def.specs.Frame.{add_lines, by_bytes, draft_of, in_line}
pub use Rattle.nf_side_def.specs.Lines.{is_head, piece_entry, unless_rule}
pub use Rattle.nf_text_def.specs.Words.{ReadLine, content_lines, read_lines}
pub use Rattle.std.proofs.lemmas.Bool.{and_from, and_parts, eq-eqb, eqb-true, leb-false, not-false, not-true}
pub use Rattle.std.proofs.lemmas.Bool.Decides.{eqb_tells}
pub use Rattle.std.proofs.lemmas.List.{append-nil, length-append, length-map, length-set, map-append}
pub use Rattle.std.proofs.lemmas.Option.{none-some, same_Some, slice_get-get_or, slice_get_cases, slice_get_past, slice_get_within}
pub use Rattle.std.specs.List.{IsDistinct, last_or, list_all, list_any, range_with_len}
