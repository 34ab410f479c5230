use Rattle.nf_thin_rank.proofs.Covers.{Covers}
use Rattle.nf_thin_rank.proofs.families.all_ways.Given as goal

abbrev pub invariant-loop-v : goal.invariant-loop-v
invariant-loop-v l = Covers l.ranking.net.now.net l.ranking.sets.now l.ranking.base.now l.pattern l.keepers l.v l.ways
