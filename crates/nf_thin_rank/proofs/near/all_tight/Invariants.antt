use Rattle.nf_thin_rank.proofs.Common.{unbounded, IsPattern}
use Rattle.nf_thin_rank.proofs.near.all_tight.Given as goal

-- The pattern is still a pattern.
abbrev pub invariant-loop-e : goal.invariant-loop-e
invariant-loop-e l = IsPattern l.ranking.sets.now (unbounded l.ranking.net.now.net) l.tight
