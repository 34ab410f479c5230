-- Nodes that a pattern leads to.
use Rattle.std.specs.Prelude.{◌≡◌, ◌⊎◌, ℕ, Bool, List}
use Rattle.nf_model.specs.declared.State.TheVariants.{Tight, Full}
use Rattle.nf_model.specs.Entries.{Has}
use Rattle.nf_model.specs.Walk.{Hop, IsHop}
use Rattle.nf_model.specs.Network.{Network, hops}
use Rattle.nf_model.specs.ThinFlow.{Sets}
use Rattle.nf_model.specs.Pattern.{Pattern, HasState}

-- link e is resetting, Tight or Full
abbrev pub MayCarry : Sets → Pattern → ℕ → Type 0
MayCarry sets pattern e = Has sets.resetting e ⊎ (HasState pattern e Tight ⊎ HasState pattern e Full)

-- such a link leads to node v
abbrev pub IsLed : Network → Sets → Pattern → ℕ → Type 0
IsLed net sets pattern v = (e : ℕ) × (hop : Hop) × IsHop (hops net) e hop × (hop.head ≡ v) × MayCarry sets pattern e

-- such a link leads to each node with a flag, but perhaps not to the source
abbrev pub AreLed : Network → Sets → Pattern → List Bool → Type 0
AreLed net sets pattern flags = (v : ℕ) → Has flags v → (v ≡ net.source) ⊎ IsLed net sets pattern v
