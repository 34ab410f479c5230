-- The names that most proofs of this crate cite, passed on from one place. Declares nothing.
pub use Rattle.nf_frac_def.specs.Checked.{Checked, Stops, at_part, each, fold_checked, placed, ◌>>=◌}
pub use Rattle.nf_frac_def.specs.Passing.{Passing, passes_Q}
pub use Rattle.nf_frac_def.specs.declared.Part.{Part}
pub use Rattle.nf_frac_def.specs.declared.Part.TheVariants.{Table, Verdict}
pub use Rattle.nf_frac_def.specs.declared.Passed.{Passed}
pub use Rattle.nf_frac_def.specs.declared.PassedAt.{PassedAt}
pub use Rattle.nf_linear.specs.Limits.{most_unknowns}
pub use Rattle.nf_linear.specs.Solved.{values_of}
pub use Rattle.nf_linear.specs.declared.solution.Solved.{Solved}
pub use Rattle.nf_linear_def.specs.Table.{Row, row_at, table_list}
pub use Rattle.nf_model.proofs.Entries.{number_at-zeros}
pub use Rattle.nf_model.specs.Entries.{Has, number_at}
pub use Rattle.nf_model.specs.Network.{IsLink, IsNetwork, Link, Network, hop_of, hops, unbounded}
pub use Rattle.nf_model.specs.Pattern.{Inequality, IsPattern, IsSolution, IsSolvable, Meets, Pattern}
pub use Rattle.nf_model.specs.ThinFlow.{Sets}
pub use Rattle.nf_model.specs.declared.State.{State}
pub use Rattle.nf_model.specs.declared.State.TheVariants.{Full, Tight, Zero}
pub use Rattle.nf_net.proofs.Limits.{few_links, few_nodes}
pub use Rattle.nf_net_def.specs.Named.{Named}
pub use Rattle.nf_net_def.specs.WellNamed.{IsNamed}
pub use Rattle.nf_rational.specs.Operations.{0ℚ, 1ℚ, neg_ℚ, ◌*ℚ◌, ◌-ℚ◌}
pub use Rattle.nf_rational.specs.Order.{le_ℚ, ◌≤ℚ◌}
pub use Rattle.nf_rational.specs.Rational.{ℚ}
pub use Rattle.nf_rational_laws.proofs.Entries.{drop_entry, entry, take_set}
pub use Rattle.nf_rational_laws.proofs.Naturals.{before_or_at}
pub use Rattle.nf_rational_laws.proofs.Order.{not_both_ℚ, ≤ℚ_of_same}
pub use Rattle.nf_rational_laws.proofs.Results.{same_Err, same_Ok}
pub use Rattle.nf_rational_laws.proofs.Tests.{le_of_test, negative_of, not_negative_of, test_of_le}
pub use Rattle.nf_thin_def.specs.Accepted.{IsAccepted, after_table, pattern_lists}
pub use Rattle.nf_thin_def.specs.Equations.{FlowOn, SlopeOf, Unknown, active_from, equations, fills_factor, leaves_less_enters, link_factor, link_flows_in}
pub use Rattle.nf_thin_def.specs.Equations.{link_rows, node_factor, node_row, one_if, onto_links, row, slopes_in, source_factor, unknowns}
pub use Rattle.nf_thin_def.specs.Verdict.{bound_of, bound_on, verdict_list}
pub use Rattle.nf_thin_equation_laws.proofs.Equations.{flow_count, unknowns-length}
pub use Rattle.nf_thin_equation_laws.proofs.Packed.{not_set, onto-length}
pub use Rattle.nf_thin_equation_laws.proofs.Table.{is_square, rows-length, solves_alone, solves_not_alone}
pub use Rattle.nf_thin_equation_laws.specs.Equations.{IsPatternIn, SolvesAlone}
pub use Rattle.nf_thin_one.specs.Filling.{AddsFlow, ChangesRow, HoldsCapacity, HoldsNumbers, IsFilledTo, IsRowOf, SetsAt, all_zero, full_entries}
pub use Rattle.nf_thin_one.specs.Filling.{link_entries, tight_entries, with_entries}
pub use Rattle.nf_thin_one.specs.Judging.{IsFirstFailing, IsJudged, MeetsAt, NoneNegativeBefore, broken_after, first_failed, keeps, link_verdict}
pub use Rattle.nf_thin_one.specs.Judging.{numbered_verdict}
pub use Rattle.nf_thin_one.specs.Leading.{AreLed, IsLed, MayCarry}
pub use Rattle.nf_thin_one.specs.declared.verdicts.Judged.{Judged}
pub use Rattle.std.proofs.Math.ListN.{drop_of_length-le, length-set}
pub use Rattle.std.proofs.lemmas.Bool.{and_parts, cases_lt, cases_order, false≢true, ne_eqb, not-true}
pub use Rattle.std.proofs.lemmas.Bool.Decides.{eqb_tells}
pub use Rattle.std.proofs.lemmas.List.{length-append, length-map, length-take-le}
pub use Rattle.std.proofs.lemmas.Option.{none-some, same_Some, slice_get_cases, slice_get_read, slice_get_within}
pub use Rattle.std.proofs.lemmas.Result.{err_from_is_err_and}
pub use Rattle.std.specs.List.{enumerate_from, flat_map, range_with_len, slice_get}
