-- Nodes entered by a Tight, Full or resetting link.
use Rattle.std.specs.Prelude.{◌≡◌, ◌≢◌, ◌⊎◌, ℕ, suc, ◌<◌, Bool, List, length, Option, Some, None, slice_get, MatchBool}
use Rattle.nf_model.specs.declared.State.{State}
use Rattle.nf_model.specs.declared.State.TheVariants.{Tight, Full}
use Rattle.nf_model.specs.Entries.{Has}
use Rattle.nf_model.specs.Walk.{Hop, IsHop}
use Rattle.nf_model.specs.Pattern.{Pattern, HasState}

-- Link e is resetting, Tight or Full.
abbrev pub MayCarry : List Bool → Pattern → ℕ → Type 0
MayCarry resetting pattern e = Has resetting e ⊎ (HasState pattern e Tight ⊎ HasState pattern e Full)

-- Some resetting, Tight or Full link leads to node v.
abbrev pub IsEntered : List Hop → List Bool → Pattern → ℕ → Type 0
IsEntered hops resetting pattern v = (e : ℕ) × (hop : Hop) × IsHop hops e hop × (hop.head ≡ v) × MayCarry resetting pattern e

-- Link e is resetting, Tight or Full, and leads to node v.
abbrev pub EntersBy : List Hop → List Bool → Pattern → ℕ → ℕ → Type 0
EntersBy hops resetting pattern e v = (hop : Hop) × IsHop hops e hop × (hop.head ≡ v) × MayCarry resetting pattern e

-- Some resetting, Tight or Full link before number n leads to node v.
abbrev pub EnteredBefore : List Hop → List Bool → Pattern → ℕ → ℕ → Type 0
EnteredBefore hops resetting pattern n v = (e : ℕ) × (e < n) × EntersBy hops resetting pattern e v

-- Link e leads to node v.
abbrev pub LeadsTo : List Hop → ℕ → ℕ → Type 0
LeadsTo hops e v = (hop : Hop) × IsHop hops e hop × (hop.head ≡ v)

-- The option is the last link before number n that leads to node v, or none if no such link exists.
abbrev pub IsLastInto : List Hop → ℕ → ℕ → Option ℕ → Type 0
IsLastInto hops n v None = (e : ℕ) → e < n → LeadsTo hops e v → ⊥
IsLastInto hops n v (Some k) = (k < n) × LeadsTo hops k v × ((e : ℕ) → k < e → e < n → LeadsTo hops e v → ⊥)

abbrev pub AreLastInto : List Hop → ℕ → List (Option ℕ) → Type 0
AreLastInto hops n last = (v : ℕ) (found : Option ℕ) → slice_get last v ≡ Some found → IsLastInto hops n v found

-- The chain has for each link the last link before it that leads to the same node.
abbrev pub AreChained : List Hop → List (Option ℕ) → Type 0
AreChained hops chain = (e : ℕ) (found : Option ℕ) → slice_get chain e ≡ Some found → (hop : Hop) → IsHop hops e hop
    → IsLastInto hops e hop.head found

-- Link e is resetting, or has a state in the base.
abbrev pub CanCarry : List Bool → Pattern → ℕ → Type 0
CanCarry resetting base e = Has resetting e ⊎ ((state : State) × HasState base e state)

-- Of the links before number m into node v, all that can carry flow are before number n. If n is not 0, link n - 1 leads to v and can carry
-- flow.
pub record IsEndBefore (hops : List Hop) (resetting : List Bool) (base : Pattern) (m v n : ℕ) : Type 0 where
  pub all : (e : ℕ) (hop : Hop) → e < m → IsHop hops e hop → hop.head ≡ v → CanCarry resetting base e → e < n
  pub last : (e : ℕ) → n ≡ suc e → (hop : Hop) × IsHop hops e hop × (hop.head ≡ v) × CanCarry resetting base e

abbrev pub AreEndsBefore : List Hop → List Bool → Pattern → ℕ → List ℕ → Type 0
AreEndsBefore hops resetting base m ends = (v n : ℕ) → slice_get ends v ≡ Some n → IsEndBefore hops resetting base m v n

abbrev pub AreEnds : List Hop → List Bool → Pattern → List ℕ → Type 0
AreEnds hops resetting base ends = AreEndsBefore hops resetting base (length hops) ends

-- For each node v, the link before number `ends` of v can carry flow in this pattern.
abbrev pub DoEndsCarry : List Bool → Pattern → List ℕ → Type 0
DoEndsCarry resetting pattern ends = (v e : ℕ) → slice_get ends v ≡ Some (suc e) → CanCarry resetting pattern e

-- Link e is the last link that can enter its head, the head is not the source, and no link up to e enters it.
pub record Strands (source : ℕ) (hops : List Hop) (resetting : List Bool) (pattern : Pattern) (ends : List ℕ) (e : ℕ) : Type 0 where
  pub hop : Hop
  pub is_hop : IsHop hops e hop
  pub other : hop.head ≢ source
  pub last : slice_get ends hop.head ≡ Some (suc e)
  pub unentered : EnteredBefore hops resetting pattern (suc e) hop.head → ⊥

-- If link e is the last link that can enter its head, and the head is not the source, some link up to e enters it.
abbrev pub KeepsEntered : ℕ → List Hop → List Bool → Pattern → List ℕ → ℕ → Type 0
KeepsEntered source hops resetting pattern ends e = (v : ℕ) → v ≢ source → LeadsTo hops e v → slice_get ends v ≡ Some (suc e)
    → EnteredBefore hops resetting pattern (suc e) v

-- `lost` says whether no link can enter some node other than the source.
abbrev pub IsLost : ℕ → List ℕ → Bool → Type 0
IsLost source ends lost = MatchBool lost ((v : ℕ) × (v ≢ source) × (slice_get ends v ≡ Some 0))
    ((v : ℕ) → v ≢ source → slice_get ends v ≡ Some 0 → ⊥)
