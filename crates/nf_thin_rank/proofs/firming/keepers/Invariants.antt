use Rattle.nf_thin_rank.proofs.Common.{AreKeepers}
use Rattle.nf_thin_rank.proofs.firming.keepers.Given as goal

abbrev pub invariant-loop-e : goal.invariant-loop-e
invariant-loop-e l = AreKeepers l.ranking.net.now.net l.ranking.sets.now l.listed l.e l.keepers.items
