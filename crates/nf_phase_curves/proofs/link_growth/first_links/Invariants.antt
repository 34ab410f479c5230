use Rattle.std.proofs.Common.{◌≡◌, map, take}
use Rattle.nf_phase_curves.proofs.Common.{first_curves, all_grown}
use Rattle.nf_phase_curves.proofs.link_growth.first_links.Given as goal

abbrev pub invariant-loop-e : goal.invariant-loop-e
invariant-loop-e l = all_grown l.curves.items ≡ take l.e (map (first_curves l.labels) l.net.net.links)
