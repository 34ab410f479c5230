-- The cut times of nodes as relations.
use Rattle.std.specs.Prelude.{◌≡◌, ◌⊎◌, ℕ, ◌<◌, List, length}
use Rattle.nf_rational.specs.Rational.{ℚ}
use Rattle.nf_rational.specs.Operations.{◌+ℚ◌}
use Rattle.nf_rational.specs.Order.{◌≤ℚ◌}
use Rattle.nf_model.specs.Entries.{number_at}
use Rattle.nf_model.specs.Network.{Network}
use Rattle.nf_quick_def.specs.Shortest.{IsLeastLength}

-- x is one of the three numbers whose least is the cut time of node v: the flow's time, the distance from the source, and that time plus
-- the distance from the sink.
abbrev pub IsCandidate : Network → List ℚ → ℚ → ℕ → ℚ → Type 0
IsCandidate net flows time v x = (x ≡ time)
    ⊎ (IsLeastLength net flows net.source v x ⊎ ((d : ℚ) × IsLeastLength net flows net.sink v d × (x ≡ time +ℚ d)))

pub record IsNodeTime (net : Network) (flows : List ℚ) (time : ℚ) (v : ℕ) (a : ℚ) : Type 0 where
  pub taken : IsCandidate net flows time v a
  pub bound : (x : ℚ) → IsCandidate net flows time v x → a ≤ℚ x

-- The cut times of all nodes.
pub record AreNodeTimes (net : Network) (flows : List ℚ) (time : ℚ) (cut : List ℚ) : Type 0 where
  pub count : length cut ≡ net.nodes
  pub times : (v : ℕ) → v < net.nodes → IsNodeTime net flows time v (number_at cut v)
