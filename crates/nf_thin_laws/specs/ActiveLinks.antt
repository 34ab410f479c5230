-- Properties of the active links of a network.
use Rattle.std.specs.Prelude.{◌≡◌, ◌≢◌, ℕ, ◌<◌, List, [], ◌∷◌, length}
use Rattle.nf_rational.specs.Rational.{ℚ}
use Rattle.nf_model.specs.Entries.{Has}
use Rattle.nf_model.specs.Network.{Link, Network, IsLink, IsNetwork}
use Rattle.nf_model.specs.ThinFlow.{Sets, Enters, sets_at}

-- Sets of the links of a network: each link has a flag that says whether it is active, and resetting links are active.
pub record AreSets (net : Network) (sets : Sets) : Type 0 where
  pub count : length sets.active ≡ length net.links
  pub resetting : (e : ℕ) → Has sets.resetting e → Has sets.active e

-- A walk from v to w along active links only.
abbrev pub IsActiveWalk : Network → Sets → List ℕ → ℕ → ℕ → Type 0
IsActiveWalk net sets [] v w = v ≡ w
IsActiveWalk net sets (e ∷ walk) v w = (link : Link) × IsLink net e link × Has sets.active e × (link.tail ≡ v)
    × IsActiveWalk net sets walk link.head w

-- The active links hold no cycle: no walk of one link or more leads back to its start.
abbrev pub HoldNoCycle : Network → Sets → Type 0
HoldNoCycle net sets = (e : ℕ) (walk : List ℕ) (v : ℕ) → IsActiveWalk net sets (e ∷ walk) v v → ⊥

-- Each node except the source has an active link into it.
abbrev pub EachIsEntered : Network → Sets → Type 0
EachIsEntered net sets = (v : ℕ) → v < net.nodes → v ≢ net.source → (e : ℕ) × (link : Link) × Enters net sets v e link

-- No active link leads to the source.
abbrev pub NoneEntersSource : Network → Sets → Type 0
NoneEntersSource net sets = (e : ℕ) (link : Link) → Enters net sets net.source e link → ⊥

-- The sets of labels are sets of the links. Their active links hold no cycle, since a walk along a cycle takes time. If the active links
-- hold no cycle and lead to each node except the source, none leads to the source.
pub record ActiveLinksHoldNoCycle : Type 0 where
  pub sets : (net : Network) (labels : List ℚ) → AreSets net (sets_at net labels)
  pub cycles : (net : Network) (labels : List ℚ) → IsNetwork net → HoldNoCycle net (sets_at net labels)
  pub source : (net : Network) (sets : Sets) → IsNetwork net → HoldNoCycle net sets → EachIsEntered net sets → NoneEntersSource net sets
