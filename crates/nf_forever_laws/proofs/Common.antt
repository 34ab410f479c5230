-- The names that most proofs of this crate cite, passed on from one place. Declares nothing.
pub use Rattle.nf_forever_def.specs.Extended.{
  extended,
  flow_until,
  labels_then,
  labels_with_end,
  last_point,
  queue_then,
  queues_with_end,
  trace_with_end,
  traces_with_end,
  up_to,
  extended_value,
  with_end,
}
pub use Rattle.nf_forever_def.specs.ForeverRun.{End, Forever, IsForever, IsForeverRun, NeverEnds, RunsForever, Stops, at_phases, fails, forever_of, goes, never_ends}
pub use Rattle.nf_forever_laws.specs.Cuts.{Cut, IsLeastCapacity, IsStaticCut, LeadsOut, capacity_sum, cut_capacity, outward_capacity}
pub use Rattle.nf_forever_laws.specs.Growth.{GrowsByCuts, GrowsByLeastCut, KeepsSets, slower_than_sink}
pub use Rattle.nf_frac_def.specs.Checked.{Checked, checked, placed, ◌>>=◌}
pub use Rattle.nf_frac_def.specs.Passing.{Passing}
pub use Rattle.nf_model.specs.Curve.{AreSlopes, Point, Within, slope, value}
pub use Rattle.nf_model.specs.Entries.{Has, number_at}
pub use Rattle.nf_model.specs.Equilibrium.{Equilibrium, Flow, HasShape, HasSlopes, TakesFlow, Trace, inflow, label, points_at, points_of}
pub use Rattle.nf_model.specs.Network.{ArePieces, IsLink, IsNetwork, Link, Network, Piece, hop_of, hops, rate_at}
pub use Rattle.nf_model.specs.Pattern.{Pattern}
pub use Rattle.nf_model.specs.Phases.{IsPhase, IsUnending, moved}
pub use Rattle.nf_model.specs.ThinFlow.{Enters, IsThinFlow, Sets, exit_slope, exit_slope_at, sets_at, slack, slacks_of}
pub use Rattle.nf_model_laws.proofs.Earliest.{IsPositive-link}
pub use Rattle.nf_net_def.specs.declared.Cause.{Cause}
pub use Rattle.nf_phase_def.specs.ToEnd.{FailsOn, GoesForever, GoesToEnd, SeeksOn, Tail, at_extend, at_lists, at_search, at_slack, end_list}
pub use Rattle.nf_phase_laws.proofs.CurveSteps.{GoesOnTo-appended, ends_at}
pub use Rattle.nf_phase_laws.proofs.WellRun.{WellRun, WellRun-start, number_is, points_is}
pub use Rattle.nf_phase_laws.specs.CurveSteps.{CurvesGoOn, GoesOnTo, LastPoint, at}
pub use Rattle.nf_rational.specs.Operations.{0ℚ, 1ℚ, ◌*ℚ◌, ◌+ℚ◌, ◌-ℚ◌, ◌/ℚ◌}
pub use Rattle.nf_rational.specs.Order.{lt_ℚ, max_ℚ, ◌<ℚ◌, ◌≤ℚ◌}
pub use Rattle.nf_rational.specs.Rational.{ℚ}
pub use Rattle.nf_rational_laws.proofs.Chains.{<_≤_trans, ≤_<_trans, ≤ℚ_refl, ≤ℚ_trans}
pub use Rattle.nf_rational_laws.proofs.Entries.{entry, last-append, slice_get-image}
pub use Rattle.nf_rational_laws.proofs.Facts.{back_and_forth, first_and_zero, later_by, nn_above_sum, nn_of_one, same_slacks, times_first_zero, times_second_zero}
pub use Rattle.nf_rational_laws.proofs.Linear.{eq, eq_times, le, le_times, linear_eq, linear_false, linear_le, linear_lt, lt}
pub use Rattle.nf_rational_laws.proofs.Order.{less_ps, lt_or_le_ℚ, nn_plus, nn_times, not_both_ℚ, ps_plus, ≤ℚ_antisymm, ≤ℚ_of_lt, ≤ℚ_of_same}
pub use Rattle.nf_rational_laws.proofs.Polynomial.{reading_of}
pub use Rattle.nf_rational_laws.proofs.Results.{not_both, one_Err, same_Ok, true_or_false}
pub use Rattle.nf_rational_laws.proofs.Tests.{less_of_test, lt_ℚ_cases, not_less_itself, not_less_of_test, test_of_less}
pub use Rattle.nf_thin_def.specs.PhaseRun.{Bounds, Goes, PhaseStep, Seeks, Standing, cause_of_search, flow_of, phase_lists, standing_after}
pub use Rattle.nf_thin_laws.proofs.ActiveLinks.{AreSets-sets_at, HoldNoCycle-sets_at, none_first}
pub use Rattle.std.proofs.lemmas.Option.{none-some, same_Some, slice_get_within}
