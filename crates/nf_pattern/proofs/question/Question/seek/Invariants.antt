use Rattle.nf_pattern.proofs.Common.{IsQuiet, IsTrailOf}
use Rattle.nf_pattern.proofs.Ranging.{left_after}
use Rattle.nf_pattern.proofs.Seeking.{IsSought}
use Rattle.nf_pattern.proofs.question.Question.seek.Given as goal

-- No listed pattern is skipped.
abbrev pub invariant-loop-same : goal.invariant-loop-same
invariant-loop-same l = record { sought : IsSought l.self l.initial.states l.states; trail : IsTrailOf l.self l.states l.trail; quiet : IsQuiet l.self.base l.quiet l.states }

abbrev pub decreases-loop-same : goal.decreases-loop-same
decreases-loop-same l = left_after l.self.base l.states
