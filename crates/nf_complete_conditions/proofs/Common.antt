-- The names that most proofs of this crate cite, passed on from one place. Declares nothing.
pub use Rattle.nf_complete_conditions.specs.InteriorFlags.{interior_flags, interior_test, is_inside}
pub use Rattle.nf_complete_conditions.specs.NodeSums.{more_at, node_by}
pub use Rattle.nf_complete_conditions.specs.States.{BringsInto, FitsState, IsStateAt, LevelInto, NoneLevelBefore, full_test}
pub use Rattle.nf_complete_conditions.specs.Testing.{AnswersWhether, same_test}
pub use Rattle.nf_complete_conditions.specs.ThinParts.{Brings, CarriesIfActive, CarriesOnActive, IsBalanced, IsLevelAt, IsProper, KeepsAt, KeepsSlopes}
pub use Rattle.nf_complete_conditions.specs.ThinParts.{LeadsInto, Takes, active_flow, brought, filling, keeps_test, taken_away}
pub use Rattle.nf_complete_conditions.specs.declared.node_sums.End.{End}
pub use Rattle.nf_complete_def.specs.Cancelling.{full_at, full_on, fulls_list}
pub use Rattle.nf_complete_def.specs.ThinList.{Sums, in_more, out_more, sum_more, sums_at, with_rate}
pub use Rattle.nf_complete_laws.proofs.Classes.{empty_exit}
pub use Rattle.nf_complete_laws.proofs.Deciding.{same_or_not, some_or_none}
pub use Rattle.nf_frac_def.proofs.Binding.{bind_ok}
pub use Rattle.nf_frac_def.proofs.Exact.{checked-is}
pub use Rattle.nf_frac_def.specs.Checked.{Checked, at_part, checked, each, fold_checked, placed, ◌>>=◌}
pub use Rattle.nf_frac_def.specs.Passing.{Passing, passes_Q}
pub use Rattle.nf_frac_def.specs.declared.Op.TheVariants.{Product, Sum}
pub use Rattle.nf_frac_def.specs.declared.Part.TheVariants.{Verdict}
pub use Rattle.nf_frac_def.specs.declared.Passed.{Passed}
pub use Rattle.nf_frac_def.specs.declared.PassedAt.{PassedAt}
pub use Rattle.nf_model.specs.Entries.{Has, number_at}
pub use Rattle.nf_model.specs.Network.{IsLink, Link, Network, sum_in, sum_out}
pub use Rattle.nf_model.specs.ThinFlow.{Enters, IsThinFlow, Sets, exit_slope, exit_slope_at, surplus}
pub use Rattle.nf_model_laws.proofs.Networks.{IsLink-unique}
pub use Rattle.nf_rational.specs.Operations.{0ℚ, 1ℚ, ◌*ℚ◌, ◌+ℚ◌, ◌-ℚ◌, ◌/ℚ◌}
pub use Rattle.nf_rational.specs.Order.{le_ℚ, lt_ℚ, max_ℚ, ◌<ℚ◌, ◌≤ℚ◌}
pub use Rattle.nf_rational.specs.Rational.{ℚ}
pub use Rattle.nf_rational_laws.proofs.Chains.{≤ℚ_refl, ≤ℚ_trans}
pub use Rattle.nf_rational_laws.proofs.Entries.{drop_entry, entry, slice_get-below, slice_get-image, slice_get-range}
pub use Rattle.nf_rational_laws.proofs.Linear.{eq, le, linear_eq, linear_le}
pub use Rattle.nf_rational_laws.proofs.Naturals.{before_or_at}
pub use Rattle.nf_rational_laws.proofs.Order.{lt_or_le_ℚ, not_both_ℚ, ≤ℚ_antisymm, ≤ℚ_of_same}
pub use Rattle.nf_rational_laws.proofs.Polynomial.{reading_of}
pub use Rattle.nf_rational_laws.proofs.Results.{same_Err, same_Ok}
pub use Rattle.nf_rational_laws.proofs.Tests.{le_of_test, less_of_test, negative_of, not_negative_of, test_of_le, test_of_less}
pub use Rattle.nf_thin_laws.proofs.Ending.{enumerated}
pub use Rattle.nf_thin_laws.proofs.Flags.{flag, flag-cases, number_at-beyond}
pub use Rattle.nf_thin_laws.proofs.Numbered.{SoFar, all_done, one_more, one_passes}
pub use Rattle.std.proofs.Math.ListN.{drop_of_length-le, length-set}
pub use Rattle.std.proofs.lemmas.Bool.{cases_eq, cases_lt}
pub use Rattle.std.proofs.lemmas.Bool.Decides.{Decides-and, Decides-eqb, Decides-like, Decides-not, Decides-or, eqb_tells, nat_tests}
pub use Rattle.std.proofs.lemmas.List.{length-replicate, take_all}
pub use Rattle.std.proofs.lemmas.List.FromFn.{length-enumerate_from, length-map-range_with_len, length-range_with_len}
pub use Rattle.std.proofs.lemmas.Option.{none-some, same_Some, slice_get_read, slice_get_within}
pub use Rattle.std.proofs.lemmas.Result.{err_from_is_err_and}
pub use Rattle.std.specs.Bool.{Decides}
pub use Rattle.std.specs.List.{enumerate_from, range_with_len}
