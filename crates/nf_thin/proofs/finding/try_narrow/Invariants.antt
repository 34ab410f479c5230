use Rattle.std.proofs.Common.{◌≡◌, ◌≤◌, ◌-◌, length}
use Rattle.nf_thin.proofs.Common.{passes_Q}
use Rattle.nf_thin.proofs.Narrowing.{NarrowVainly, KeepsUp}
use Rattle.nf_thin.proofs.finding.try_narrow.Given as goal

-- The first patterns left are rejected.
abbrev pub invariant-loop-part : goal.invariant-loop-part
invariant-loop-part l = record {
  same : l.patterns.question ≡ l.fn.patterns.question;
  count : length l.whole ≡ length l.problem.ranking.net.now.net.links;
  within : l.vain.tried ≤ l.problem.ranking.budget;
  in_step : KeepsUp l.problem.ranking.net.now.net l.problem.ranking.sets.now l.problem.ranking.base.now l.narrow.forced.now l.patterns.last l.pace;
  vainly : NarrowVainly passes_Q l.problem.ranking.net.now.net l.problem.ranking.sets.now l.problem.rate l.problem.ranking.base.now l.narrow.forced.now l.vain.tried l.patterns.last;
}

abbrev pub decreases-loop-part : goal.decreases-loop-part
decreases-loop-part l = l.problem.ranking.budget - l.vain.tried
