-- The names that most proofs of this crate cite, passed on from one place. Declares nothing.
pub use Rattle.nf_complete_laws.proofs.Deciding.{Decided, NoLink, both, same_or_not}
pub use Rattle.nf_complete_laws.proofs.ExistsDeciding.{SomeLink, less_or_not, not_so, some_below, some_link}
pub use Rattle.nf_complete_laws.proofs.Numbers.{length-numbers, number_at-numbers, number_at-past, numbers}
pub use Rattle.nf_complete_laws.specs.Oversupply.{ResetsAreBounded}
pub use Rattle.nf_curve_laws.proofs.Times.{IsOne, turns-one}
pub use Rattle.nf_forever_laws.specs.Cuts.{Cut, IsLeastCapacity, IsStaticCut, capacity_sum, cut_capacity, outward_capacity}
pub use Rattle.nf_forever_laws.specs.Growth.{GrowsByCuts, GrowsByLeastCut, KeepsSets}
pub use Rattle.nf_forever_laws.specs.TailGrowth.{TailGrows, last_rate, travel_time}
pub use Rattle.nf_model.specs.Curve.{Within}
pub use Rattle.nf_model.specs.Entries.{Has, number_at}
pub use Rattle.nf_model.specs.Equilibrium.{Equilibrium, Flow, inflow, label, points_at, queue}
pub use Rattle.nf_model.specs.Network.{IsLink, IsNetwork, IsPiece, Link, Network, Piece, hop_of, hops, rate_at, rate_from}
pub use Rattle.nf_model.specs.Phases.{IsExtension, IsPhase, IsPhaseLength, IsUnending, Lasts, moved}
pub use Rattle.nf_model.specs.ThinFlow.{Enters, IsThinFlow, Sets, exit_slope, exit_slope_at, sets_at, slack, slacks_of}
pub use Rattle.nf_model_laws.proofs.Affine.{ps-times_gap, quotient-times, same_from_times}
pub use Rattle.nf_model_laws.proofs.Earliest.{IsPositive-link}
pub use Rattle.nf_model_laws.proofs.Slacks.{active_of_slack, moved-at, resetting_of_slack, slack_of_active, slack_of_resetting}
pub use Rattle.nf_model_laws.specs.Capacity.{IsPositive}
pub use Rattle.nf_phase_def.specs.ToEnd.{Tail}
pub use Rattle.nf_phase_equilibrium_laws.proofs.Invariant.{HoldsUpTo-equilibrium}
pub use Rattle.nf_phase_laws.specs.Invariant.{HoldsUpTo, LabelsAre, link_slack, queue_by_slack}
pub use Rattle.nf_rational.specs.Operations.{0ℚ, 1ℚ, ◌*ℚ◌, ◌+ℚ◌, ◌-ℚ◌, ◌/ℚ◌}
pub use Rattle.nf_rational.specs.Order.{le_ℚ, lt_ℚ, max_ℚ, min_ℚ, ◌<ℚ◌, ◌≤ℚ◌}
pub use Rattle.nf_rational.specs.Rational.{ℚ}
pub use Rattle.nf_rational_laws.proofs.Chains.{<_≤_trans, ≤_<_trans, ≤ℚ_refl, ≤ℚ_trans}
pub use Rattle.nf_rational_laws.proofs.Extremes.{max_keeps, max_left, max_right, min_is_left, min_is_right}
pub use Rattle.nf_rational_laws.proofs.Facts.{both_are_zero, gap_ng, gap_np, negated_ps, not_before_by, same_differences, same_slacks, sum_le, sum_le_lt, sum_lt_le, times_second_zero}
pub use Rattle.nf_rational_laws.proofs.Linear.{eq, eq_times, le, le_times, linear_eq, linear_false, linear_le, linear_lt, lt}
pub use Rattle.nf_rational_laws.proofs.Order.{less_nn, less_ps, lt_or_le_ℚ, nn_plus, nn_times, not_both_ℚ, ps_times, ≤ℚ_antisymm, ≤ℚ_of_lt, ≤ℚ_of_same}
pub use Rattle.nf_rational_laws.proofs.Polynomial.{reading_of}
pub use Rattle.nf_rational_laws.proofs.Results.{not_both}
pub use Rattle.nf_rational_laws.proofs.Tests.{le_ℚ_cases, less_of_test, lt_ℚ_cases, max0_none, max0_of, not_less_of_test, test_of_le, test_of_less}
pub use Rattle.nf_settling_laws.specs.Excess.{ExcessFalls, excess, held, link_sum, width}
pub use Rattle.nf_settling_laws.specs.Linear.{GrowsLinearly, LinearGrowthIsByCuts}
pub use Rattle.nf_settling_laws.specs.Settling.{CutsAreWide, EquilibriaSettle, IsLastSupply, IsSteady, OneLinkIsWide, SettledRunsEnd, Settles, SteadyNeedsWideCuts}
pub use Rattle.nf_thin_laws.proofs.ActiveLinks.{AreSets-sets_at, HoldNoCycle-sets_at, none_first}
pub use Rattle.nf_thin_laws.proofs.Flags.{flag, flag-cases}
pub use Rattle.nf_thin_laws.proofs.Slopes.{EachIsEntered-thin, link_law, slopes-unique}
pub use Rattle.nf_thin_laws.specs.ActiveLinks.{AreSets, EachIsEntered, HoldNoCycle, IsActiveWalk}
pub use Rattle.nf_unique_laws.proofs.Labels.{labels-same}
pub use Rattle.nf_unique_laws.proofs.Moves.{goes-by_thin_flow}
pub use Rattle.nf_unique_laws.proofs.Phases.{one_slope, phase-labels}
pub use Rattle.nf_unique_laws.proofs.Stretches.{NoneBetween, all_times, along_times, one-all}
pub use Rattle.nf_unique_laws.specs.ThinLaws.{GoesByThinFlow}
pub use Rattle.std.proofs.lemmas.Option.{none-some, same_Some, slice_get_past, slice_get_within}
