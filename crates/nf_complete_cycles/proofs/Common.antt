-- The names that most proofs of this crate cite, passed on from one place. Declares nothing.
pub use Rattle.nf_complete_cycles.specs.Cycles.{IsClosedTrail, IsFirstCycle, lower_step, lowest_from, round_onto}
pub use Rattle.nf_complete_cycles.specs.Trees.{AreApart, Crosses, InTree, IsTree, IsWay, NoneStepsOut, StepsOut, begin_at, begin_of, end_of, step_end}
pub use Rattle.nf_complete_cycles.specs.Trees.{way_back}
pub use Rattle.nf_complete_def.specs.Cancelling.{change_at, least_room, room_at}
pub use Rattle.nf_complete_def.specs.Interior.{links_of, turn_of}
pub use Rattle.nf_frac_def.specs.Passing.{passes_Q}
pub use Rattle.nf_frac_def.specs.declared.Part.TheVariants.{Verdict}
pub use Rattle.nf_graph.proofs.Flags.{Has-replicate, Has-set_cases, Has-set_other, Has-set_same, Has-within, Has_from_place, Has_from_read, free}
pub use Rattle.nf_graph.proofs.Flags.{not_Has_from_place, not_Has_from_read}
pub use Rattle.nf_graph.proofs.Walks.{IsHop-read, IsHop-unique}
pub use Rattle.nf_graph.specs.Graph.{AreBelow}
pub use Rattle.nf_model.specs.Entries.{Has}
pub use Rattle.nf_model.specs.Pattern.{AllDiffer, IsForest, IsTrail}
pub use Rattle.nf_model.specs.Walk.{Hop, IsHop}
pub use Rattle.nf_model_laws.proofs.Contained.{contains_cases, contains_first, contains_more, contains_none}
pub use Rattle.nf_thin_laws.proofs.Numbered.{SoFar, all_done, one_more, one_passes}
pub use Rattle.std.proofs.Math.ListN.{drop_of_length-le, length-replicate, length-set}
pub use Rattle.std.proofs.lemmas.Bool.{cases_lt, not-true}
pub use Rattle.std.proofs.lemmas.Bool.Decides.{eqb_tells, leb_tells}
pub use Rattle.std.proofs.lemmas.Option.{none-some, same_Some, slice_get_read, slice_get_within}
pub use Rattle.std.proofs.lemmas.Result.{IfOk-from_err, err_from_is_err_and}
pub use Rattle.std.specs.List.{AllByRecursion}
