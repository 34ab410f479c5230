-- The names that most proofs of this crate cite, passed on from one place. Declares nothing.
pub use Rattle.nf_curve_laws.proofs.Times.{IsOne, turns-one}
pub use Rattle.nf_model.specs.Curve.{HasCurve, IsCurve, IsGreatest, IsLeast, NeverFalls, Point, TimesRise, Within, slope, value}
pub use Rattle.nf_model.specs.Entries.{Has, number_at}
pub use Rattle.nf_model.specs.Equilibrium.{Balances, Equilibrium, Flow, inflow, label, outflow, points_at, points_of, queue}
pub use Rattle.nf_model.specs.Network.{ArePieces, IsLink, IsNetwork, IsPiece, Link, Network, Piece, hop_of, hops, rate_at, rate_from, sum_in, sum_out, supplied, supply, time_in}
pub use Rattle.nf_model.specs.Queue.{IsExit, IsOutflow, IsQueue, waiting}
pub use Rattle.nf_model.specs.ThinFlow.{Enters, IsThinFlow, Sets, exit_slope, exit_slope_at, sets_at, slack, slacks_of, surplus}
pub use Rattle.nf_model_laws.proofs.Affine.{IsAffine-composed, le_from_times, line_start, nn-slope, quotient-gap, quotient-times, same_from_times}
pub use Rattle.nf_model_laws.proofs.Networks.{IsLink-unique, IsWalk-link, transit_of-is}
pub use Rattle.nf_model_laws.proofs.Potential.{carried-each, fall, out_less_in}
pub use Rattle.nf_model_laws.proofs.Queues.{IsOutflow-unique, IsQueue-unique}
pub use Rattle.nf_model_laws.proofs.Slacks.{active_of_slack, length-moved, moved-at, resetting_of_slack, slack_after-moved, slack_at, slack_of_active, slack_of_resetting}
pub use Rattle.nf_model_laws.specs.Affine.{IsAffine}
pub use Rattle.nf_phase_equilibrium_laws.proofs.Invariant.{HoldsUpTo-equilibrium}
pub use Rattle.nf_phase_laws.proofs.Holds.{amount_rises, label_not_negative, link_within, queue_early, sent-is}
pub use Rattle.nf_phase_laws.specs.Invariant.{HoldsUpTo, LabelsAre, link_slack, queue_by_slack, sent, tail_or}
pub use Rattle.nf_rational.specs.Operations.{0ℚ, 1ℚ, inv_ℚ, ◌*ℚ◌, ◌+ℚ◌, ◌-ℚ◌, ◌/ℚ◌}
pub use Rattle.nf_rational.specs.Order.{le_ℚ, lt_ℚ, max_ℚ, min_ℚ, ◌<ℚ◌, ◌≤ℚ◌}
pub use Rattle.nf_rational.specs.Rational.{ℚ}
pub use Rattle.nf_rational_laws.proofs.Chains.{<_≤_trans, <ℚ_trans, ≤_<_trans, ≤ℚ_refl, ≤ℚ_trans}
pub use Rattle.nf_rational_laws.proofs.Extremes.{min_is_left, min_keeps, min_left, min_right}
pub use Rattle.nf_rational_laws.proofs.Facts.{above_between, below_between, gap_np, less_le, lt_of_gap, plus_zero_le, same_terms, term_and_zero, zero_of_zero_times}
pub use Rattle.nf_rational_laws.proofs.Linear.{eq, eq_times, le, le_times, linear_eq, linear_false, linear_le, linear_lt, lt}
pub use Rattle.nf_rational_laws.proofs.Order.{less_nn, less_ps, lt_or_le_ℚ, not_both_ℚ, ps_times, ≤ℚ_antisymm, ≤ℚ_of_lt, ≤ℚ_of_same}
pub use Rattle.nf_rational_laws.proofs.Polynomial.{reading_of}
pub use Rattle.nf_rational_laws.proofs.Tests.{le_ℚ_cases, lt_ℚ_cases, max0_none, max0_of, max_ℚ_cases, min_ℚ_cases}
pub use Rattle.nf_thin_laws.proofs.ActiveLinks.{AreSets-sets_at, HoldNoCycle-sets_at, along_more}
pub use Rattle.nf_unique_laws.specs.PriceLaws.{clipped, entered_of, left_of}
pub use Rattle.std.proofs.lemmas.Bool.Decides.{eqb_tells}
pub use Rattle.std.proofs.lemmas.Option.{same_Some, slice_get_within}
