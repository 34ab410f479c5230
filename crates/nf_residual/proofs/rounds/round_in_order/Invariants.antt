use Rattle.nf_residual.proofs.Common.{passes_Q}
use Rattle.nf_residual.proofs.Rounding.{RoundOn}
use Rattle.nf_residual.proofs.rounds.round_in_order.Given as goal

abbrev pub invariant-loop-leg : goal.invariant-loop-leg
invariant-loop-leg l = RoundOn passes_Q l.legs l.fn.fresh l.fn.ways l.before l.ways l.places.items l.leg-index
