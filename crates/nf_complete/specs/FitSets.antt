-- Preconditions on the sets of a thin flow.
use Rattle.std.specs.Prelude.{◌≡◌, ℕ, None}
use Rattle.nf_model.specs.Entries.{Has}
use Rattle.nf_model.specs.Network.{Link, Network, IsLink}
use Rattle.nf_model.specs.ThinFlow.{Sets}
use Rattle.nf_thin_laws.specs.ActiveLinks.{AreSets, HoldNoCycle}

-- the sets are of the network's links, the active links hold no cycle, and no resetting link is unbounded
pub record AreFitSets (net : Network) (sets : Sets) : Type 0 where
  pub sets_are : AreSets net sets
  pub acyclic : HoldNoCycle net sets
  pub bounded : (e : ℕ) (link : Link) → IsLink net e link → link.capacity ≡ None → Has sets.resetting e → ⊥
