-- The names that most proofs of this crate cite, passed on from one place. Declares nothing.
pub use Rattle.nf_forever_laws.specs.Cuts.{Cut, IsLeastCapacity, IsStaticCut, cut_capacity}
pub use Rattle.nf_forever_laws.specs.TailGrowth.{TailGrows, last_rate}
pub use Rattle.nf_model.specs.Entries.{Has, number_at}
pub use Rattle.nf_model.specs.Equilibrium.{Equilibrium, Flow, inflow, label}
pub use Rattle.nf_model.specs.Network.{IsLink, IsNetwork, IsPiece, Link, Network, Piece}
pub use Rattle.nf_model.specs.ThinFlow.{IsThinFlow, Sets, sets_at}
pub use Rattle.nf_model_laws.proofs.Affine.{le_from_times, nn-quotient, quotient-times, same_from_times}
pub use Rattle.nf_rational.specs.Operations.{0ℚ, 1ℚ, ◌*ℚ◌, ◌+ℚ◌, ◌-ℚ◌, ◌/ℚ◌}
pub use Rattle.nf_rational.specs.Order.{lt_ℚ, max_ℚ, ◌<ℚ◌, ◌≤ℚ◌}
pub use Rattle.nf_rational.specs.Rational.{ℚ}
pub use Rattle.nf_rational_laws.proofs.Chains.{≤ℚ_refl, ≤ℚ_trans}
pub use Rattle.nf_rational_laws.proofs.Extremes.{max_is_left, max_keeps, max_left, max_right}
pub use Rattle.nf_rational_laws.proofs.Facts.{gap_np, nn_of_one, nn_plus_one, times_le}
pub use Rattle.nf_rational_laws.proofs.Linear.{eq, eq_times, le, le_times, linear_eq, linear_le, linear_lt, lt}
pub use Rattle.nf_rational_laws.proofs.Order.{<ℚ_irrefl, less_nn, lt_or_le_ℚ, nn_times, not_both_ℚ, ≤ℚ_antisymm, ≤ℚ_of_lt, ≤ℚ_of_same}
pub use Rattle.nf_rational_laws.proofs.Polynomial.{reading_of}
pub use Rattle.nf_rational_laws.proofs.Tests.{max0_none, max0_of, test_of_less, test_of_not_less}
pub use Rattle.nf_settling_graded_laws.specs.Grading.{IsGraded}
pub use Rattle.nf_settling_growth_laws.specs.Growth.{
  AreInOrder,
  BottleneckDecides,
  BottleneckSteadies,
  GradedFlowDecides,
  GrowsAt,
  GrowthIsByCuts,
  IsGrowth,
  OneLinkGrows,
  SwaysAtMost,
  TailHasGrowth,
  sway,
}
pub use Rattle.nf_settling_laws.proofs.Filling.{Kind, capacity_or_0, carried_up, filled, filled_amount, kind_at, law_at}
pub use Rattle.nf_settling_laws.proofs.Starts.{IsLastSupply-from, label-bounded, label_bound, label_bound-not_negative, last_rate-not_negative, last_start, last_start-not_negative}
pub use Rattle.nf_settling_laws.specs.Excess.{link_sum}
pub use Rattle.nf_settling_laws.specs.Settling.{CutsAreWide, IsLastSupply, Settles}
