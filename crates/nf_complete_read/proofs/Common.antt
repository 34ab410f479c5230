-- The names that most proofs of this crate cite, passed on from one place. Declares nothing.
pub use Rattle.nf_complete_def.specs.FlowsFile.{End, FlowOf, FlowsBroken, FlowsDraft, FlowsEntry, SlopeOf, add_flows, empty_flows, flows_entry, flows_frame}
pub use Rattle.nf_complete_def.specs.FlowsFile.{flows_in, if_ended, is_given, named_line, number_entry, or_nothing, with_entry}
pub use Rattle.nf_complete_def.specs.declared.FlowsRule.{FlowsRule}
pub use Rattle.nf_complete_def.specs.declared.FlowsRule.TheVariants.{S10, S11, S4, S6, S7}
pub use Rattle.nf_complete_read.specs.Entries.{IsOf, seen_entry}
pub use Rattle.nf_frac_def.specs.Checked.{◌>>=◌}
pub use Rattle.nf_frac_words.specs.Numbers.{number_of}
pub use Rattle.nf_net_def.specs.Named.{Named}
pub use Rattle.nf_net_def.specs.Names.{Name, has_name}
pub use Rattle.nf_net_def.specs.Numbers.{greatest}
pub use Rattle.nf_rational.specs.Rational.{ℚ}
pub use Rattle.nf_side.proofs.Frame.{broken_more, file_closed, same_read}
pub use Rattle.nf_side.specs.NameAt.{IsNameAt}
pub use Rattle.std.proofs.lemmas.Result.{IfOk-weaker, err_from_is_err_and}
pub use Rattle.std.specs.Result.{result_ok}
