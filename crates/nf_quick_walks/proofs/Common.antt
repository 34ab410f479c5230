-- The names that most proofs of this crate cite, passed on from one place. Declares nothing.
pub use Rattle.nf_frac_def.specs.Checked.{Checked, at_part, checked, checked_at, fold_checked, ◌>>=◌}
pub use Rattle.nf_frac_def.specs.Passing.{Passing, passes_Q}
pub use Rattle.nf_frac_def.specs.declared.Op.TheVariants.{Difference, Sum}
pub use Rattle.nf_frac_def.specs.declared.PassedAt.{PassedAt}
pub use Rattle.nf_model.specs.Entries.{number_at}
pub use Rattle.nf_model.specs.Network.{IsLink, IsNetwork, Link, Network}
pub use Rattle.nf_quick_def.specs.Answers.{IsShortest, IsShortestWalk}
pub use Rattle.nf_quick_def.specs.Flows.{IsSound}
pub use Rattle.nf_quick_def.specs.Pushes.{Times, push_list, time_list}
pub use Rattle.nf_quick_def.specs.Quick.{Augment, QuickStanding, is_early, next_list, next_of, push_on}
pub use Rattle.nf_quick_def.specs.Rounds.{Walk, shortest_list}
pub use Rattle.nf_quick_def.specs.Steps.{IsUnboundedWalk}
pub use Rattle.nf_quick_def.specs.Walks.{first_out, head_of, least_along, take_link, take_list, walk_and, walks_off, way_from, way_out}
pub use Rattle.nf_quick_walks.specs.Spent.{AreSpent, HaveFlow, IsSpent, is_out}
pub use Rattle.nf_quick_walks.specs.Ways.{AreAllWays, AreWays, LeadsToNew, NoneLeadsOn, Ways, leads_on, walk_to}
pub use Rattle.nf_rational.specs.Operations.{0ℚ}
pub use Rattle.nf_rational.specs.Order.{lt_ℚ, min_ℚ, ◌<ℚ◌, ◌≤ℚ◌}
pub use Rattle.nf_rational.specs.Rational.{ℚ}
pub use Rattle.nf_rational_laws.proofs.Results.{not_both, same_Ok}
pub use Rattle.nf_residual.proofs.Folding.{FoldsOn, all_at, fold_all, fold_more, fold_stops}
pub use Rattle.nf_residual.proofs.Stopping.{goes_on, ok_of_part, stopped}
pub use Rattle.std.proofs.lemmas.Bool.Decides.{eqb_tells}
pub use Rattle.std.proofs.lemmas.List.{drop_all, drop_more, get_or_read, length-replicate, length-set, length_push, replicate_more, take_more}
pub use Rattle.std.proofs.lemmas.Option.{get_or_from_slice_get, none-some, same_Some, slice_get_cases, slice_get_read, slice_get_within}
pub use Rattle.std.proofs.lemmas.Option.{unwrap_or-slice_get}
pub use Rattle.std.proofs.lemmas.Result.{err_from_is_err_and}
pub use Rattle.std.specs.List.{AllByRecursion}
