use Rattle.std.proofs.Common.{◌≡◌, map, take}
use Rattle.nf_phase_curves.proofs.Common.{amount_so_far, all_grown}
use Rattle.nf_phase_curves.proofs.link_growth.amounts.Given as goal

abbrev pub invariant-loop-of_link : goal.invariant-loop-of_link
invariant-loop-of_link l = l.amounts.items ≡ map amount_so_far (all_grown (take l.of_link-index l.curves))
