use Rattle.std.proofs.Common.{◌≡◌, ◌++◌, drop}
use Rattle.nf_complete_cycles.proofs.Common.{way_back}
use Rattle.nf_complete_cycles.proofs.way.trace.Given as goal

-- the path so far, and the remaining path
abbrev pub invariant-loop-step : goal.invariant-loop-step
invariant-loop-step l = l.back.items ++ way_back l.hops (drop l.step-index l.tree) l.node ≡ way_back l.hops l.tree l.fn.to
