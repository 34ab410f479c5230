-- Forest traversal: each node has its last link, and each link the one before it at either end.
use Rattle.std.specs.Prelude.{◌≡◌, ◌≢◌, ◌<◌, ◌≤◌, length, ℕ, zero, suc, Bool, true, false, ◌&&◌, ◌||◌, eqb, if◌then◌else◌, List, Option, Some, None, slice_get}
use Rattle.nf_model.specs.declared.State.{State}
use Rattle.nf_model.specs.declared.State.TheVariants.{Tight}
use Rattle.nf_model.specs.Walk.{Hop, IsHop}
use Rattle.nf_model.specs.Pattern.{Pattern, HasState}
use Rattle.nf_graph.specs.Graph.{AreBelow}
use Rattle.nf_pattern.specs.declared.walking.Place.{Place}
use Rattle.nf_pattern.specs.declared.walking.TightLinks.{TightLinks}

-- The last link before number n for which `Ends` holds at node v, or none.
abbrev pub last_at : (ℕ → ℕ → Bool) → ℕ → ℕ → Option ℕ
last_at Ends zero v = None
last_at Ends (suc n) v = if Ends n v then Some n else last_at Ends n v

-- A traversal depends on three functions: whether a link ends at a node, where it leads to from there, and which nodes are joined.
module _ (Ends : ℕ → ℕ → Bool) (other : ℕ → ℕ → ℕ) (Joined : ℕ → ℕ → ℕ → Type 0) where
  -- k steps along the links before number n lead from node x and next link o to node y and next link r. At the end of a node's link chain,
  -- the chain restarts, but not at node v. Every node reached is joined with v.
  abbrev pub Path : ℕ → ℕ → ℕ → ℕ → Option ℕ → ℕ → Option ℕ → Type 0
  Path n v zero x o y r = (x ≡ y) × (o ≡ r)
  Path n v (suc k) x None y r = (x ≢ v) × Joined n v x × Path n v k x (last_at Ends n x) y r
  Path n v (suc k) x (Some l) y r = Joined n v (other l x) × Path n v k (other l x) (last_at Ends l (other l x)) y r

-- ---- Tight links
abbrev pub is_tight : Option (Option State) → Bool
is_tight (Some (Some Tight)) = true
is_tight s = false

abbrev pub ends_by : Option Hop → ℕ → Bool
ends_by None v = false
ends_by (Some hop) v = eqb hop.tail v || eqb hop.head v

-- Link e is Tight, and ends at node v.
abbrev pub ends_at : List Hop → Pattern → ℕ → ℕ → Bool
ends_at hops pattern e v = is_tight (slice_get pattern e) && ends_by (slice_get hops e) v

abbrev pub across : Option Hop → ℕ → ℕ
across None v = v
across (Some hop) v = if eqb hop.tail v then hop.head else hop.tail

-- The node to which link e leads from node v, in either direction.
abbrev pub other_end : List Hop → ℕ → ℕ → ℕ
other_end hops e v = across (slice_get hops e) v

-- ---- the stack of the Tight links before number n
-- The lists have the last Tight link at each node, and for each Tight link the one before it at its tail and at its head.
pub record IsWalkable (hops : List Hop) (pattern : Pattern) (n : ℕ) (last tails heads : List (Option ℕ)) : Type 0 where
  pub below : AreBelow (length last) hops
  pub count_tails : length tails ≡ length hops
  pub count_heads : length heads ≡ length hops
  pub last_is : (v : ℕ) → v < length last → slice_get last v ≡ Some (last_at (ends_at hops pattern) n v)
  pub tails_are : (e : ℕ) (hop : Hop) → e < n → HasState pattern e Tight → IsHop hops e hop
      → slice_get tails e ≡ Some (last_at (ends_at hops pattern) e hop.tail)
  pub heads_are : (e : ℕ) (hop : Hop) → e < n → HasState pattern e Tight → IsHop hops e hop
      → slice_get heads e ≡ Some (last_at (ends_at hops pattern) e hop.head)

abbrev pub IsTightStack : List Hop → Pattern → ℕ → TightLinks → Type 0
IsTightStack hops pattern n tight = IsWalkable hops pattern n tight.last.items tight.tails.items tight.heads.items

-- The next link is the last Tight one at the node before some number, at most n.
abbrev pub IsPlace : List Hop → Pattern → ℕ → ℕ → Option ℕ → Type 0
IsPlace hops pattern n v o = (m : ℕ) × (m ≤ n) × (o ≡ last_at (ends_at hops pattern) m v)

-- One step: across the link, or to the last link at the node, unless the node is the start.
abbrev pub GoesBy : List Hop → Pattern → ℕ → ℕ → ℕ → Option ℕ → Option Place → Type 0
GoesBy hops pattern n start v (Some l) (Some after) = (after.node ≡ other_end hops l v)
    × (after.link ≡ last_at (ends_at hops pattern) l (other_end hops l v))
GoesBy hops pattern n start v (Some l) None = ⊥
GoesBy hops pattern n start v None (Some after) = (v ≢ start) × (after.node ≡ v) × (after.link ≡ last_at (ends_at hops pattern) n v)
GoesBy hops pattern n start v None None = v ≡ start

abbrev pub Goes : List Hop → Pattern → ℕ → ℕ → Place → Option Place → Type 0
Goes hops pattern n start place after = GoesBy hops pattern n start place.node place.link after
