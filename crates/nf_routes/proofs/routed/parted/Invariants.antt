use Rattle.std.proofs.Common.{◌≡◌, map}
use Rattle.nf_routes.proofs.Common.{passes_Q, last_entry, but_last}
use Rattle.nf_routes.proofs.routed.parted.Given as goal

abbrev pub invariant-loop-stages : goal.invariant-loop-stages
invariant-loop-stages l =
    (map (λ sent. map (λ c. c.points) sent.items) l.all.items ≡ map (but_last passes_Q) l.yielded)
    × (map (λ c. c.points) l.arrivals.items ≡ map last_entry l.yielded)
