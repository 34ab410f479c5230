-- The names that most proofs of this crate cite, passed on from one place. Declares nothing.
pub use Rattle.nf_check_def.specs.Curves.{departures}
pub use Rattle.nf_curve.proofs.Exits.{after_err, after_ok, err_before, ok_before, stops_on, was_ok}
pub use Rattle.nf_frac_def.specs.Checked.{Checked, Gives, at_part, each, ◌>>=◌}
pub use Rattle.nf_frac_def.specs.Passing.{Passing, passes_Q}
pub use Rattle.nf_frac_def.specs.declared.Part.TheVariants.{Load}
pub use Rattle.nf_frac_def.specs.declared.PassedAt.{PassedAt}
pub use Rattle.nf_load.specs.Loadings.{loaded_of}
pub use Rattle.nf_rational.specs.Rational.{ℚ}
pub use Rattle.nf_routes.specs.KeptList.{kept_list, kept_result}
pub use Rattle.nf_routes.specs.Routed.{routed_of}
pub use Rattle.nf_routes_def.specs.Routes.{AreRoutes, HoldCircle, Route}
pub use Rattle.nf_routes_def.specs.RoutesFile.{NamedRoute, routes_of}
pub use Rattle.nf_routes_def.specs.RoutesList.{LoadedLink, Routed, SoFar, but_last, end_or, last_entry, loaded_or, routes_list, travel_on}
pub use Rattle.nf_routes_links.proofs.Lists.{same_pushed}
pub use Rattle.nf_routes_links.proofs.Travelling.{complete_exits, complete_over, each_same, travel_on-is}
pub use Rattle.nf_routes_links.specs.Keeping.{all_kept, kept_after, last_alone}
pub use Rattle.nf_routes_links.specs.Travels.{GoOverAll, HaveExits, travel_along}
pub use Rattle.nf_routes_links.specs.declared.keeping.Kept.TheVariants.{Every, Last}
pub use Rattle.std.proofs.lemmas.Iterator.Adapters.{YieldsList-from_vec}
pub use Rattle.std.proofs.lemmas.Iterator.Consumers.{YieldsList-turn}
pub use Rattle.std.proofs.lemmas.Option.{slice_get_read}
pub use Rattle.std.proofs.lemmas.Result.{err_from_is_err_and}
