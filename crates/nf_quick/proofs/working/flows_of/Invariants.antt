use Rattle.std.proofs.Common.{◌≡◌, take}
use Rattle.nf_quick.proofs.working.flows_of.Given as goal

abbrev pub invariant-loop-number : goal.invariant-loop-number
invariant-loop-number l = l.flows.items ≡ take l.number l.flow
