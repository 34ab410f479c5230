-- The names that most proofs of this crate cite, passed on from one place. Declares nothing.
pub use Rattle.nf_graph.specs.Distances.{AllFit, AnyLink, AreDistances, AreOffers, HasSum, IsUnsettled, LinksBefore, NoNegativeTransit, Offers, PassesAlong}
pub use Rattle.nf_graph.specs.Distances.{PassesAt, StopsAt, SumPasses}
pub use Rattle.nf_graph.specs.Found.{IsFound}
pub use Rattle.nf_graph.specs.Graph.{AreBelow, AreReached, IsClosed, Leaves}
pub use Rattle.nf_graph.specs.Order.{AreSearched, EntersFromUnplaced, IsAt, IsChosenCycle, IsOrder, IsReady, IsStuck, IsZeroCycle, NoneEnters, Turns}
pub use Rattle.nf_graph.specs.Steps.{ForPassed, IsNearer, IsNearest, IsNearestBefore, IsOffered, IsStepTo, PassesFrom, lesser_offer}
pub use Rattle.nf_graph.specs.declared.distance.Step.{Step}
pub use Rattle.nf_graph.specs.declared.order.OrderOrCycle.{OrderOrCycle}
pub use Rattle.nf_model.specs.Entries.{Has}
pub use Rattle.nf_model.specs.ThinFlow.{Sets}
pub use Rattle.nf_model.specs.Walk.{Hop, IsHop, IsLeastTransit, IsWalk, transit_of, transit_sum}
pub use Rattle.nf_model_laws.proofs.Networks.{IsWalk-append, by_link, transit_of-hop, transit_sum-append}
pub use Rattle.nf_rational.specs.Operations.{0ℚ, ◌+ℚ◌}
pub use Rattle.nf_rational.specs.Order.{min_ℚ, ◌<ℚ◌, ◌≤ℚ◌}
pub use Rattle.nf_rational.specs.Rational.{ℚ}
pub use Rattle.nf_rational_laws.proofs.Chains.{≤ℚ_refl, ≤ℚ_trans}
pub use Rattle.nf_rational_laws.proofs.Entries.{set_cases, set_same}
pub use Rattle.nf_rational_laws.proofs.Order.{nn_plus, ≤ℚ_of_same}
pub use Rattle.std.proofs.Math.ListN.{length-map, length-set}
pub use Rattle.std.proofs.lemmas.Bool.{true≢false}
pub use Rattle.std.proofs.lemmas.Bool.Decides.{eqb_tells}
pub use Rattle.std.proofs.lemmas.List.{length-replicate, with_items_is}
pub use Rattle.std.proofs.lemmas.Option.{same_Some, slice_get-get_or, slice_get-map, slice_get_read, slice_get_within}
pub use Rattle.std.proofs.lemmas.Result.{err_from_is_err_and}
pub use Rattle.std.specs.Option.{is_some}
