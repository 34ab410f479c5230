-- The states of a base pattern, link by link.
use Rattle.std.specs.Prelude.{◌≡◌, ◌⊎◌, ℕ, ◌<◌, Bool, List, length, Option, Some, None, slice_get}
use Rattle.nf_model.specs.declared.State.{State}
use Rattle.nf_model.specs.declared.State.TheVariants.{Tight, Zero}
use Rattle.nf_model.specs.Entries.{Has}
use Rattle.nf_model.specs.Walk.{Hop, IsHop}
use Rattle.nf_model.specs.ThinFlow.{Sets}
use Rattle.nf_model.specs.Pattern.{Pattern, HasState, NeedsState, IsFirstInto}

-- Link `other` is resetting, or active and before link e.
abbrev pub Bars : Sets → ℕ → ℕ → Type 0
Bars sets other e = Has sets.resetting other ⊎ ((other < e) × Has sets.active other)

-- Each node has one flag. A flag is set exactly if a chosen link enters the flag's node.
pub record AreEntered (nodes : ℕ) (hops : List Hop) (Chosen : ℕ → Type 0) (flags : List Bool) : Type 0 where
  pub count : length flags ≡ nodes
  pub into : (v : ℕ) → Has flags v → (e : ℕ) × (hop : Hop) × IsHop hops e hop × (hop.head ≡ v) × Chosen e
  pub all : (e : ℕ) (hop : Hop) → IsHop hops e hop → Chosen e → Has flags hop.head

-- Each node has one flag. It is set exactly if a resetting link, or an active one before link e, enters the node.
abbrev pub AreBarred : ℕ → List Hop → Sets → ℕ → List Bool → Type 0
AreBarred nodes hops sets e flags = AreEntered nodes hops (λ other. Bars sets other e) flags

-- Link e has this state in the base pattern, or none.
pub record IsBaseState (hops : List Hop) (sets : Sets) (last : Pattern) (e : ℕ) (given : Option State) : Type 0 where
  pub needed : (state : State) → given ≡ Some state → NeedsState sets e
  pub there : NeedsState sets e → (state : State) × (given ≡ Some state)
  pub kept : (state : State) → NeedsState sets e → HasState last e state → given ≡ Some state
  pub first : (hop : Hop) → NeedsState sets e → slice_get last e ≡ Some None → IsFirstInto hops sets e hop → given ≡ Some Tight
  pub later : NeedsState sets e → slice_get last e ≡ Some None → ((hop : Hop) → IsFirstInto hops sets e hop → ⊥) → given ≡ Some Zero
