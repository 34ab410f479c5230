-- The names that most proofs of this crate cite, passed on from one place. Declares nothing.
pub use Rattle.nf_frac_def.specs.Passing.{Passing, passes_Q, result_of}
pub use Rattle.nf_model.specs.Entries.{number_at}
pub use Rattle.nf_model.specs.Network.{IsLink, IsNetwork, Link, Network, hop_of, hops, sum_in, sum_out}
pub use Rattle.nf_model.specs.Pattern.{Equation, Fills, Inequality, Meets, Pattern, Solves}
pub use Rattle.nf_model.specs.ThinFlow.{Sets, surplus}
pub use Rattle.nf_model.specs.Walk.{Hop}
pub use Rattle.nf_model.specs.declared.State.{State}
pub use Rattle.nf_pattern.proofs.Each.{each_none, each_pushed, length_pushed}
pub use Rattle.nf_pattern.proofs.Setting.{set_other, set_same, tell}
pub use Rattle.nf_rational.specs.Operations.{0ℚ, neg_ℚ, whole, ◌*ℚ◌, ◌+ℚ◌, ◌-ℚ◌}
pub use Rattle.nf_rational.specs.Rational.{ℚ}
pub use Rattle.nf_rational_laws.proofs.Entries.{entry}
pub use Rattle.nf_rational_laws.proofs.Linear.{eq, le, linear_eq, linear_le}
pub use Rattle.nf_rational_laws.proofs.Order.{less_nn, nn_in, nn_out, nn_times, nn_whole, shifted_le, ≤ℚ_antisymm, ≤ℚ_of_same}
pub use Rattle.nf_rational_laws.proofs.Polynomial.{reading, reading_of, ring}
pub use Rattle.nf_thin_balance.specs.Conserving.{AreFlowsWithin, AreFull, AreSurpluses, BalancesNodes, BoundEach, BoundsFirst, CanFlow, IsConserved}
pub use Rattle.nf_thin_balance.specs.Conserving.{needed_at, scaled_flow, surplus_by, surplus_of_first}
pub use Rattle.nf_thin_balance.specs.LinksAt.{HasLinksFrom, IsNextAt}
pub use Rattle.nf_thin_balance.specs.Ranges.{IsAtLeastEnd, IsEndOfDifference, IsEndOfSum, IsFull, IsInRange, IsUpTo, MeetsState, scaled}
pub use Rattle.nf_thin_balance.specs.Stating.{CanCarryFlows}
pub use Rattle.nf_thin_balance.specs.declared.ranges.Range.{Range}
pub use Rattle.nf_thin_narrow.proofs.Entries.{length_set}
pub use Rattle.std.proofs.lemmas.Bool.{ne_eqb, true≢false}
pub use Rattle.std.proofs.lemmas.Bool.Decides.{eqb_tells}
pub use Rattle.std.proofs.lemmas.List.{length-map, length-replicate, take_all}
pub use Rattle.std.proofs.lemmas.Option.{none-some, same_Some, slice_get-map, slice_get_read, slice_get_within}
