use Rattle.nf_forever.proofs.Common.{passes_Q}
use Rattle.nf_forever.proofs.Going.{GoneOn}
use Rattle.nf_forever.proofs.solving.go.Given as goal

abbrev pub invariant-loop : goal.invariant-loop
invariant-loop l = GoneOn passes_Q l.net.net l.budgets.phases l.budgets.patterns l.fn.run l.counter l.run
