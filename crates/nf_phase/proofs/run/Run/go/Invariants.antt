use Rattle.nf_phase.proofs.Common.{passes_Q, bounds_of}
use Rattle.nf_phase.proofs.Going.{GoneTo}
use Rattle.nf_phase.proofs.run.Run.go.Given as goal

abbrev pub invariant-loop : goal.invariant-loop
invariant-loop l = GoneTo passes_Q l.net.net (bounds_of l.horizon l.budgets) l.fn.self l.counter l.self
