-- The names that most proofs of this crate cite, passed on from one place. Declares nothing.
pub use Rattle.nf_model.specs.Curve.{IsCurve, IsGreatest, IsLeast, NeverFalls, TimesRise, Within, slope, value}
pub use Rattle.nf_model.specs.Earliest.{Arrives, IsEarliest}
pub use Rattle.nf_model.specs.Entries.{Has, number_at}
pub use Rattle.nf_model.specs.Equilibrium.{Balances, Conserves, Equilibrium, Flow, HasShape, HasSlopes, OnlyShortest, Trace, inflow, label, outflow, points_at, points_of, queue}
pub use Rattle.nf_model.specs.Network.{ArePieces, IsLink, IsNetwork, IsPiece, Link, Network, Piece, hop_of, hops, rate_from, sum_in, sum_out, supplied, supply, time_in}
pub use Rattle.nf_model.specs.Queue.{IsExit, IsOutflow, IsQueue, waiting}
pub use Rattle.nf_model.specs.Walk.{Hop, IsHop, IsLeastTransit, IsWalk, transit_of, transit_sum}
pub use Rattle.nf_model_laws.specs.Affine.{IsAffine, queue_after}
pub use Rattle.nf_model_laws.specs.Capacity.{IsPositive}
pub use Rattle.nf_model_laws.specs.EarliestLaws.{AreLabels, AreTransitLabels, InflowsRise}
pub use Rattle.nf_model_laws.specs.MemberLaws.{FillsLink, HasMember, IsOutTrace, NotBefore, at_rate, delayed_trace, n, one_link, prompt_trace, steady_flow}
pub use Rattle.nf_rational.specs.Operations.{0ℚ, 1ℚ, ◌*ℚ◌, ◌+ℚ◌, ◌-ℚ◌, ◌/ℚ◌}
pub use Rattle.nf_rational.specs.Order.{le_ℚ, lt_ℚ, max_ℚ, min_ℚ, ◌<ℚ◌, ◌≤ℚ◌}
pub use Rattle.nf_rational.specs.Rational.{ℚ}
pub use Rattle.nf_rational_laws.proofs.Chains.{<_≤_trans, ≤ℚ_refl, ≤ℚ_trans}
pub use Rattle.nf_rational_laws.proofs.Facts.{
  first_and_zero,
  first_of_sum,
  gap_np,
  less_le,
  less_zero,
  nn_plus_one,
  plus_zero_le,
  plus_zero_times,
  same_sums,
  sum_le,
  term_and_zero,
  without_zero,
  zero_of_zero_times,
  zero_plus,
}
pub use Rattle.nf_rational_laws.proofs.Linear.{eq, eq_times, le, le_times, linear_eq, linear_false, linear_le, linear_lt, lt}
pub use Rattle.nf_rational_laws.proofs.Order.{<ℚ_irrefl, less_nn, less_ps, lt_or_le_ℚ, nn_plus, nn_times, nn_whole, not_both_ℚ, ps_times, ps_whole, ≤ℚ_antisymm, ≤ℚ_of_lt, ≤ℚ_of_same}
pub use Rattle.nf_rational_laws.proofs.Polynomial.{reading_of}
pub use Rattle.nf_rational_laws.proofs.Quotient.{/ℚ-times, /ℚ-unique, /ℚ_is, ps_apart, ps_inv}
pub use Rattle.nf_rational_laws.proofs.Tests.{le_ℚ_cases, lt_ℚ_cases, max0_none, max0_of, max_ℚ_cases, test_of_le, test_of_lt}
pub use Rattle.std.proofs.lemmas.Bool.{eq-eqb, eqb-true, or_parts}
pub use Rattle.std.proofs.lemmas.Bool.Decides.{eqb_tells}
pub use Rattle.std.proofs.lemmas.Option.{same_Some, slice_get-map, slice_get_within}
