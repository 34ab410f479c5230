-- Orders of the nodes along links, and cycles.
use Rattle.std.specs.Prelude.{◌≡◌, ℕ, suc, ◌<◌, Bool, List, length, Some, slice_get}
use Rattle.nf_rational.specs.Operations.{0ℚ}
use Rattle.nf_model.specs.Entries.{Has}
use Rattle.nf_model.specs.Walk.{Hop, IsHop, IsWalk, transit_of}

-- node v is at index i of the order
abbrev pub IsAt : List ℕ → ℕ → ℕ → Type 0
IsAt order i v = slice_get order i ≡ Some v

-- The order contains each node exactly once, and no other numbers. Every chosen link leads to a later node.
pub record IsOrder (nodes : ℕ) (hops : List Hop) (chosen : List Bool) (order : List ℕ) : Type 0 where
  pub count : length order ≡ nodes
  pub nodes_only : (i v : ℕ) → IsAt order i v → v < nodes
  pub each : (v : ℕ) → v < nodes → (i : ℕ) × IsAt order i v
  pub once : (i j v : ℕ) → IsAt order i v → IsAt order j v → i ≡ j
  pub later : (e i j : ℕ) (hop : Hop) → IsHop hops e hop → Has chosen e → IsAt order i hop.tail → IsAt order j hop.head → i < j

-- the walk is closed and has at least one hop; each hop is allowed
pub record IsWalkCycle (hops : List Hop) (Allowed : ℕ → Type 0) (walk : List ℕ) : Type 0 where
  pub node : ℕ
  pub some : 0 < length walk
  pub closed : IsWalk hops walk node node
  pub allowed : (i e : ℕ) → slice_get walk i ≡ Some e → Allowed e

-- a cycle along chosen links
abbrev pub IsChosenCycle : List Hop → List Bool → List ℕ → Type 0
IsChosenCycle hops chosen walk = IsWalkCycle hops (Has chosen) walk

-- a cycle along links of transit time 0
abbrev pub IsZeroCycle : List Hop → List ℕ → Type 0
IsZeroCycle hops walk = IsWalkCycle hops (λ e. transit_of hops e ≡ 0ℚ) walk

-- ---- states of the search

-- a chosen link leads into node v from a node that is not placed yet
pub record EntersFromUnplaced (hops : List Hop) (chosen placed : List Bool) (e v : ℕ) : Type 0 where
  pub hop : Hop
  pub is_hop : IsHop hops e hop
  pub chosen_too : Has chosen e
  pub head : hop.head ≡ v
  pub free : Has placed hop.tail → ⊥

-- none of the links before number `count` enters node v
abbrev pub NoneEnters : List Hop → List Bool → List Bool → ℕ → ℕ → Type 0
NoneEnters hops chosen placed v count = (e : ℕ) → e < count → EntersFromUnplaced hops chosen placed e v → ⊥

-- link e enters node v, and none before it does
pub record IsFirstEntering (hops : List Hop) (chosen placed : List Bool) (v e : ℕ) : Type 0 where
  pub enters : EntersFromUnplaced hops chosen placed e v
  pub first : NoneEnters hops chosen placed v e

-- each node has a number, and none of the links before it enters the node
pub record AreSearched (hops : List Hop) (chosen placed : List Bool) (searched : List ℕ) : Type 0 where
  pub count : length searched ≡ length placed
  pub none : (v start : ℕ) → slice_get searched v ≡ Some start → NoneEnters hops chosen placed v start

-- node v may be placed next: it is not placed, and no chosen link enters it from an unplaced node
pub record IsReady (hops : List Hop) (chosen placed : List Bool) (v : ℕ) : Type 0 where
  pub below : v < length placed
  pub free : Has placed v → ⊥
  pub none : (e : ℕ) → EntersFromUnplaced hops chosen placed e v → ⊥

-- no node may be placed next: each unplaced node is entered by a chosen link from an unplaced node
abbrev pub IsStuck : List Hop → List Bool → List Bool → Type 0
IsStuck hops chosen placed = (v : ℕ) → v < length placed → (Has placed v → ⊥) → (e : ℕ) × EntersFromUnplaced hops chosen placed e v

-- a link of the walk leads to node v; `count` is the number of links up to and including it
pub record Turns (hops : List Hop) (walk : List ℕ) (v count : ℕ) : Type 0 where
  pub place : ℕ
  pub number : ℕ
  pub hop : Hop
  pub at_place : slice_get walk place ≡ Some number
  pub is_hop : IsHop hops number hop
  pub head : hop.head ≡ v
  pub is_count : count ≡ suc place
