-- The names that most proofs of this crate cite, passed on from one place. Declares nothing.
pub use Rattle.nf_frac_def.specs.Checked.{◌>>=◌}
pub use Rattle.nf_model.specs.Network.{Link, Piece}
pub use Rattle.nf_net_def.specs.Named.{Named}
pub use Rattle.nf_net_def.specs.Names.{Name, has_name, is_name, name_at, place_of}
pub use Rattle.nf_rational_laws.proofs.Entries.{entry, slice_get-image}
pub use Rattle.nf_routes_def.specs.Kept.{AreSound, KeepRules}
pub use Rattle.nf_routes_def.specs.Routes.{AreWalks, all_pairs, first_free, is_free, is_taken, order_from, pairs_of, takes_all, with_next}
pub use Rattle.nf_routes_def.specs.RoutesFile.{HoldsCircleIn, NamedRoute, ReadsRoutes, RouteLine, RoutesBroken, RoutesDraft, RoutesEntry, add_route_line}
pub use Rattle.nf_routes_def.specs.RoutesFile.{end_line, head_of, is_walk, pieces_of, rate_line, route_line, route_names, routes_after, routes_ended}
pub use Rattle.nf_routes_def.specs.RoutesFile.{routes_entry, routes_frame, routes_in, routes_of, routes_rule_of, rule_behind, tail_is, unless_circle}
pub use Rattle.nf_routes_def.specs.RoutesFile.{with_piece}
pub use Rattle.nf_routes_def.specs.declared.RoutesRule.{RoutesRule}
pub use Rattle.nf_routes_def.specs.declared.RoutesRule.TheVariants.{G17, G4, G6, G7, G8}
pub use Rattle.nf_routes_laws.proofs.FileReading.{circle_there, decided, kept_routes, read_kept, read_walks}
pub use Rattle.nf_routes_read.specs.Entries.{AreLinksOf, Says, seen_entry}
pub use Rattle.nf_side.proofs.Frame.{broken_more, drafted_lines, file_closed, same_read}
pub use Rattle.nf_side.specs.NameAt.{IsNameAt}
pub use Rattle.nf_text.specs.Within.{word_at}
pub use Rattle.std.proofs.lemmas.Bool.{cond-false, cond-true, or_right}
pub use Rattle.std.proofs.lemmas.List.{append-nil, append_assoc, at_drop_all, at_drop_more, drop_all, drop_more, length-map}
pub use Rattle.std.proofs.lemmas.Option.{slice_get-get_or, slice_get_read, unwrap_or-slice_get}
pub use Rattle.std.specs.List.{list_all, position_or_len, range_with_len}
