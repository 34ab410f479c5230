use Rattle.nf_quick_walks.proofs.Common.{AreWays}
use Rattle.nf_quick_walks.proofs.GrowingWays.{unknown}
use Rattle.nf_quick_walks.proofs.unbounded.all_ways.Given as goal

abbrev pub invariant-loop-link : goal.invariant-loop-link
invariant-loop-link l = AreWays l.net.net l.ways.items

abbrev pub decreases-loop-link : goal.decreases-loop-link
decreases-loop-link l = unknown l.ways.items
