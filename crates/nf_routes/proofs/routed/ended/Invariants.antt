use Rattle.std.proofs.Common.{◌≡◌, map}
use Rattle.nf_routes.proofs.Common.{passes_Q, loaded_of, end_or, loaded_or}
use Rattle.nf_routes.proofs.routed.ended.Given as goal

abbrev pub invariant-loop-link : goal.invariant-loop-link
invariant-loop-link l = (l.ends.items ≡ map (end_or passes_Q) l.yielded) × (map loaded_of l.all.items ≡ map (loaded_or passes_Q) l.yielded)
