-- The names that most proofs of this crate cite, passed on from one place. Declares nothing.
pub use Rattle.nf_complete.specs.NextCycles.{AreForestBelow, ClosesNext}
pub use Rattle.nf_complete.specs.Settling.{GivesOneOf, IsThinWithFulls}
pub use Rattle.nf_complete_conditions.proofs.Filling.{fulls_count}
pub use Rattle.nf_complete_conditions.proofs.Interiors.{fewer_set, flags_are, flags_by_flows, set_count}
pub use Rattle.nf_complete_conditions.proofs.Telling.{first_passes, value_of}
pub use Rattle.nf_complete_conditions.specs.InteriorFlags.{interior_flags}
pub use Rattle.nf_complete_cycles.specs.Cycles.{ClosesFirst, IsFirstCycle}
pub use Rattle.nf_complete_def.specs.Cancelling.{Cancels, Settles, cancel_list, cancels, fulls_list, no_cycle, passes_at, settles, stops}
pub use Rattle.nf_complete_def.specs.Interior.{IsInterior, IsNextCycle}
pub use Rattle.nf_complete_def.specs.SettledPattern.{IsSettledPattern}
pub use Rattle.nf_complete_laws.specs.SettleLaws.{AreGoodSets}
pub use Rattle.nf_frac_def.specs.Checked.{Checked, Stops, at_part, each, placed, seen_passed_at, ◌>>=◌}
pub use Rattle.nf_frac_def.specs.Passing.{Passing, passes_Q}
pub use Rattle.nf_frac_def.specs.declared.Part.TheVariants.{Verdict}
pub use Rattle.nf_frac_def.specs.declared.PassedAt.{PassedAt}
pub use Rattle.nf_model.specs.Entries.{Has}
pub use Rattle.nf_model.specs.Network.{Network, hops}
pub use Rattle.nf_model.specs.Pattern.{IsForest, IsListedIn, IsSolution, Pattern}
pub use Rattle.nf_model.specs.ThinFlow.{IsThinFlow, Sets}
pub use Rattle.nf_net.proofs.Limits.{few_hops, few_links}
pub use Rattle.nf_rational.specs.Rational.{ℚ}
pub use Rattle.std.proofs.lemmas.Result.{IfOk-from_err, err_from_is_err_and}
