use Rattle.nf_residual.proofs.Common.{passes_Q}
use Rattle.nf_residual.proofs.Moving.{MovesOn}
use Rattle.nf_residual.proofs.residual.move_along.Given as goal

abbrev pub invariant-loop-step : goal.invariant-loop-step
invariant-loop-step l = MovesOn passes_Q l.amount l.steps l.fn.flows.items l.flows.items l.step-index
