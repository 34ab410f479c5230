use Rattle.std.proofs.Common.{List}
use Rattle.nf_complete.proofs.Common.{ℚ, passes_Q, interior_flags, set_count, AreForestBelow, IsThinWithFulls}
use Rattle.nf_complete.proofs.CancelsOn.{CancelsOn}
use Rattle.nf_complete.proofs.settling.cancelled.Given as goal

-- the first flows have the results of the flows so far, and the interior links before `known` are a forest
abbrev pub invariant-loop-new : goal.invariant-loop-new
invariant-loop-new l = (slopes : List ℚ) (t : IsThinWithFulls passes_Q l.net.net l.sets slopes l.fulls l.flows)
    → CancelsOn passes_Q l.net.net l.sets t.rate slopes l.fulls l.flows l.new.items × AreForestBelow l.net.net l.sets slopes l.new.items l.known

-- each cycle leaves fewer interior links
abbrev pub decreases-loop-new : goal.decreases-loop-new
decreases-loop-new l = set_count (interior_flags l.sets l.fulls l.new.items)
