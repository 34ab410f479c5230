-- Links that alone can enter their head.
use Rattle.std.specs.Prelude.{◌≡◌, ◌≢◌, ℕ, Bool, List, length}
use Rattle.nf_model.specs.declared.State.{State}
use Rattle.nf_model.specs.declared.State.TheVariants.{Zero}
use Rattle.nf_model.specs.Entries.{Has}
use Rattle.nf_model.specs.Walk.{Hop, IsHop}
use Rattle.nf_model.specs.Pattern.{Pattern, HasState}
use Rattle.nf_pattern.specs.Entered.{LeadsTo, CanCarry}
use Rattle.nf_pattern.specs.Given.{Question, IsListedBy}

-- Link e has a state in the base, its head is not the source, and no other link that can carry flow leads to it.
pub record EntersAlone (source : ℕ) (hops : List Hop) (resetting : List Bool) (base : Pattern) (e : ℕ) : Type 0 where
  pub hop : Hop
  pub is_hop : IsHop hops e hop
  pub other : hop.head ≢ source
  pub stated : (state : State) × HasState base e state
  pub only : (k : ℕ) → LeadsTo hops k hop.head → CanCarry resetting base k → k ≡ e

abbrev pub AllEnterAlone : ℕ → List Hop → List Bool → Pattern → List Bool → Type 0
AllEnterAlone source hops resetting base sole = (e : ℕ) → Has sole e → EntersAlone source hops resetting base e

-- There is a flag for each link, and no listed pattern has a flagged link Zero.
pub record AreSpared (question : Question) (sole : List Bool) : Type 0 where
  pub count : length sole ≡ length question.base
  pub never : (r : Pattern) → IsListedBy question r → (e : ℕ) → Has sole e → HasState r e Zero → ⊥
