use Rattle.nf_residual.proofs.FromBehind.{ComparesOn}
use Rattle.nf_residual.proofs.ways.Ways.are_before.Given as goal

abbrev pub invariant-loop : goal.invariant-loop
invariant-loop l = ComparesOn l.self l.fn.way l.fn.step l.fn.other l.here l.there l.are_before l.counter
