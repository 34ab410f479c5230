use Rattle.std.proofs.Common.{◌≡◌, length}
use Rattle.nf_thin_guess.proofs.part_slopes.slopes_of_nodes.Given as goal

-- There is a slope for each node so far.
abbrev pub invariant-loop-v : goal.invariant-loop-v
invariant-loop-v l = length l.slopes.items ≡ l.v
