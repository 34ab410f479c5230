-- Hops, and the nodes that they reach.
use Rattle.std.specs.Prelude.{◌≡◌, ℕ, ◌<◌, ◌↔◌, Bool, List, length}
use Rattle.nf_model.specs.Entries.{Has}
use Rattle.nf_model.specs.Walk.{Hop, IsHop, IsWalk}

-- the ends of each hop are less than the number of nodes
pub record AreBelow (nodes : ℕ) (hops : List Hop) : Type 0 where
  pub tails : (e : ℕ) (hop : Hop) → IsHop hops e hop → hop.tail < nodes
  pub heads : (e : ℕ) (hop : Hop) → IsHop hops e hop → hop.head < nodes

-- Each node has one flag. A flag is set exactly if a walk leads from the node `from` to the flag's node.
pub record AreReached (nodes : ℕ) (hops : List Hop) (from : ℕ) (flags : List Bool) : Type 0 where
  pub count : length flags ≡ nodes
  pub each : (v : ℕ) → Has flags v ↔ ((walk : List ℕ) × IsWalk hops walk from v)

-- a hop leads from a node with a set flag to node v, whose flag is not set
pub record Leaves (hops : List Hop) (flags : List Bool) (v : ℕ) : Type 0 where
  pub number : ℕ
  pub hop : Hop
  pub is_hop : IsHop hops number hop
  pub tail : Has flags hop.tail
  pub head : hop.head ≡ v
  pub free : Has flags v → ⊥

-- no hop leads from a node with a set flag to a node without
abbrev pub IsClosed : List Hop → List Bool → Type 0
IsClosed hops flags = (e : ℕ) (hop : Hop) → IsHop hops e hop → Has flags hop.tail → Has flags hop.head
