use Rattle.library_callers.proofs.complete.settle_if_thin.Goals as goal
use Rattle.std.proofs.lemmas.Bool.{MatchBool-at_true, MatchBool-at_false}

pub returns-then-not-branch-clause-thin : goal.returns-then-not-branch-clause-thin
returns-then-not-branch-clause-thin c = MatchBool-at_false _ _ c.if-not-branch.true c.in_ok-is_thin.ensures.thin

pub settle-requires-clause-thin : goal.settle-requires-clause-thin
settle-requires-clause-thin c = MatchBool-at_true _ _ c.if-not-branch.false c.in_ok-is_thin.ensures.thin
