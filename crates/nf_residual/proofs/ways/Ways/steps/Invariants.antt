use Rattle.nf_residual.proofs.Twigs.{ReadsOn}
use Rattle.nf_residual.proofs.ways.Ways.steps.Given as goal

abbrev pub invariant-loop : goal.invariant-loop
invariant-loop l = ReadsOn l.self l.fn.way l.steps.items l.here l.counter
