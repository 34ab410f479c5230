use Rattle.std.proofs.Common.{take}
use Rattle.nf_thin_one.proofs.Spreading.{AreFlows}
use Rattle.nf_thin_one.proofs.trying.spread_flows.Given as goal

abbrev pub invariant-loop-e : goal.invariant-loop-e
invariant-loop-e l = AreFlows l.sets.active l.values l.net.net.nodes (take l.e l.flows) l.e l.next
