-- The names that most proofs of this crate cite, passed on from one place. Declares nothing.
pub use Rattle.nf_curve.proofs.Exits.{each_ends, each_goes, each_stops, if_ok}
pub use Rattle.nf_frac_def.specs.Checked.{Checked, at_part, each, fold_checked, ◌>>=◌}
pub use Rattle.nf_frac_def.specs.Passing.{Passing, passes_Q}
pub use Rattle.nf_frac_def.specs.declared.PassedAt.{PassedAt}
pub use Rattle.nf_model.specs.Network.{ArePieces, Link, Network, Piece, supplied}
pub use Rattle.nf_model_laws.proofs.Supply.{StartsRise, StartsRise-pieces}
pub use Rattle.nf_net.specs.Supply.{checked_supply, end_before, plus_piece, supplied_after}
pub use Rattle.nf_quick_def.specs.Cuts.{at_most, node_time, node_time_at, value_after}
pub use Rattle.nf_quick_def.specs.Departures.{IsDeparture, by_next, departs, departure_of, last_piece, within_piece}
pub use Rattle.nf_rational.specs.Operations.{0ℚ}
pub use Rattle.nf_rational.specs.Order.{le_ℚ, lt_ℚ, min_ℚ, ◌<ℚ◌, ◌≤ℚ◌}
pub use Rattle.nf_rational.specs.Rational.{ℚ}
pub use Rattle.nf_rational_laws.proofs.Tests.{le_of_test, less_of_test, lt_of_test, test_of_less, test_of_not_less}
pub use Rattle.std.proofs.lemmas.List.{drop_all, drop_more}
pub use Rattle.std.proofs.lemmas.Option.{get_or_from_slice_get, same_Some, slice_get_read, slice_get_within}
pub use Rattle.std.proofs.lemmas.Result.{err_from_is_err_and}
