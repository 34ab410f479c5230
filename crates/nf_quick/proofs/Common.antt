-- The names that most proofs of this crate cite, passed on from one place. Declares nothing.
pub use Rattle.nf_frac_def.specs.Checked.{Checked, Stops, at_part, ◌>>=◌}
pub use Rattle.nf_frac_def.specs.Passing.{Passing, passes_Q}
pub use Rattle.nf_frac_def.specs.declared.Halt.{Halt}
pub use Rattle.nf_model.specs.Network.{IsNetwork, Network}
pub use Rattle.nf_quick.specs.Answered.{IsAnswered, IsInOrder, IsPushResult, of_halt}
pub use Rattle.nf_quick_def.specs.Answers.{IsQuickFlow, IsShortestWalk}
pub use Rattle.nf_quick_def.specs.Flows.{IsSound}
pub use Rattle.nf_quick_def.specs.Quick.{Budget, Done, FoundQuick, OverBudget, Pushed, Quick, QuickOutcome, QuickStanding, answer_list, ended, finish_list}
pub use Rattle.nf_quick_def.specs.Quick.{next_list, nothing, push_and, push_on, push_up_to, quickest_of, start_of}
pub use Rattle.nf_quick_def.specs.Rounds.{Walk, distances_list}
pub use Rattle.nf_quick_def.specs.Steps.{IsLimited, IsUnboundedWalk}
pub use Rattle.nf_rational.specs.Operations.{0ℚ}
pub use Rattle.nf_rational.specs.Order.{le_ℚ, ◌<ℚ◌, ◌≤ℚ◌}
pub use Rattle.nf_rational.specs.Rational.{ℚ}
pub use Rattle.nf_rational_laws.proofs.Tests.{le_of_test, lt_of_test}
pub use Rattle.nf_residual.proofs.Stopping.{goes_on, ok_of_part, stopped, stops, stops_as}
pub use Rattle.std.proofs.lemmas.Result.{IfOk-from_err, err_from_is_err_and}
