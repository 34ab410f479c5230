-- Properties of every ladder.
use Rattle.std.specs.Prelude.{◌≡◌, ℕ, ◌+◌, ◌*◌, ◌≤◌, length}
use Rattle.nf_net_def.specs.WellNamed.{IsNamed}
use Rattle.nf_gen.specs.Ladder.{most_rungs, ladder}

pub record IsLadder (number rungs : ℕ) : Type 0 where
  pub named : IsNamed (ladder number rungs)
  pub nodes : length (ladder number rungs).node_names ≡ 2 * rungs + 2
  pub links : length (ladder number rungs).net.links ≡ 3 * rungs + 2

-- a ladder with 1 to `most_rungs` rungs is a network within the limits of a file
abbrev pub LadderIsNamed : Type 0
LadderIsNamed = (number rungs : ℕ) → 1 ≤ rungs → rungs ≤ most_rungs → IsLadder number rungs
