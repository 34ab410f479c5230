use Rattle.std.proofs.Common.{◌-◌}
use Rattle.nf_thin.proofs.Common.{passes_Q}
use Rattle.nf_thin.proofs.Looping.{InLoop}
use Rattle.nf_thin.proofs.searches.go_through.Given as goal

-- The first patterns of the listing are rejected.
abbrev pub invariant-loop-pattern : goal.invariant-loop-pattern
invariant-loop-pattern l = InLoop passes_Q l.problem.ranking.net.now.net l.problem.ranking.sets.now l.problem.rate l.fn.patterns.question l.problem.ranking.budget l.patterns l.vain

abbrev pub decreases-loop-pattern : goal.decreases-loop-pattern
decreases-loop-pattern l = l.problem.ranking.budget - l.vain.tried
