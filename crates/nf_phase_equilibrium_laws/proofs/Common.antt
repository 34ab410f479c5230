-- The names that most proofs of this crate cite, passed on from one place. Declares nothing.
pub use Rattle.nf_model.specs.Curve.{IsCurve, IsGreatest, IsLeast, IsShort, NeverFalls, Point, TimesRise, Within, slope, value}
pub use Rattle.nf_model.specs.Equilibrium.{Balances, Equilibrium, Flow, Trace, inflow, label, outflow, points_at, points_of, queue}
pub use Rattle.nf_model.specs.Network.{IsLink, IsNetwork, Link, Network, hops, sum_in, sum_out, supply}
pub use Rattle.nf_model.specs.Queue.{IsExit, IsOutflow, IsQueue, waiting}
pub use Rattle.nf_model_laws.proofs.Affine.{nn-quotient, ps-times_gap, quotient-times, same_from_times}
pub use Rattle.nf_model_laws.proofs.Curves.{EndsAt-value, value-after, value-first, value-line, value-takes_between}
pub use Rattle.nf_model_laws.proofs.Earliest.{AreLabels-report, IsEarliest-forward, IsPositive-link}
pub use Rattle.nf_model_laws.proofs.Potential.{EndsBelow, only_at, only_at-else, only_at-here, sum_to, sum_to-only, sum_to-plus, sum_to-same}
pub use Rattle.nf_model_laws.proofs.Queues.{IsExit-after, IsOutflow-unique, IsQueue-from_IsOutflow, IsQueue-nn, IsQueue-none, IsQueue-unique}
pub use Rattle.nf_model_laws.proofs.Sums.{sum_in-same, sum_in-some, sum_out-each, sum_out-same}
pub use Rattle.nf_phase_laws.specs.Invariant.{HoldsUpTo, LabelsAre, link_slack, queue_by_slack, sent, tail_of, tail_or}
pub use Rattle.nf_rational.specs.Operations.{0ℚ, ◌*ℚ◌, ◌+ℚ◌, ◌-ℚ◌, ◌/ℚ◌}
pub use Rattle.nf_rational.specs.Order.{max_ℚ, min_ℚ, ◌<ℚ◌, ◌≤ℚ◌}
pub use Rattle.nf_rational.specs.Rational.{ℚ}
pub use Rattle.nf_rational_laws.proofs.Chains.{≤ℚ_refl, ≤ℚ_trans}
pub use Rattle.nf_rational_laws.proofs.Facts.{first_of_sum, in_time, less_le, times_second_zero}
pub use Rattle.nf_rational_laws.proofs.Linear.{eq, eq_times, le, le_times, linear_eq, linear_le, linear_lt, lt}
pub use Rattle.nf_rational_laws.proofs.Order.{less_nn, lt_or_le_ℚ, not_both_ℚ, ≤ℚ_antisymm, ≤ℚ_of_lt, ≤ℚ_of_same}
pub use Rattle.nf_rational_laws.proofs.Polynomial.{reading_of}
pub use Rattle.nf_rational_laws.proofs.Tests.{max0_none, max0_of, min_ℚ_cases}
pub use Rattle.std.proofs.lemmas.Option.{same_Some, slice_get_within}
