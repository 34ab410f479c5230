use Rattle.std.proofs.Common.{◌≡◌, length}
use Rattle.nf_residual.proofs.Common.{passes_Q}
use Rattle.nf_residual.proofs.Rounding.{SearchOn}
use Rattle.nf_residual.proofs.rounds.reaches_by.Given as goal

abbrev pub invariant-loop : goal.invariant-loop
invariant-loop l = SearchOn passes_Q l.net.net l.flows l.fn.from l.arcs.legs.items l.fresh l.ways l.places.items l.counter
    × (length l.next.items ≡ length l.places.items)
