-- Known walks of unbounded links from the source.
use Rattle.std.specs.Prelude.{◌≡◌, ℕ, Bool, true, false, not, ◌&&◌, List, Option, Some, None, is_none, is_some, length, slice_get, unwrap_or}
use Rattle.nf_model.specs.Network.{Link, Network, IsLink}
use Rattle.nf_quick_def.specs.Steps.{IsUnboundedWalk}

-- For each node the links of a walk to it, if one is known.
abbrev pub Ways : Type 0
Ways = List (Option (List ℕ))

abbrev pub walk_to : Ways → ℕ → Option (List ℕ)
walk_to ways v = unwrap_or (slice_get ways v) None

-- The link is unbounded and leads from a node with a known walk to a node without one.
abbrev pub leads_on : Ways → Link → Bool
leads_on ways link = is_none link.capacity && (is_some (walk_to ways link.tail) && not (is_some (walk_to ways link.head)))

-- Link e leads to a new node.
pub record LeadsToNew (net : Network) (ways : Ways) (e : ℕ) : Type 0 where
  pub link : Link
  pub is_link : IsLink net e link
  pub leads : leads_on ways link ≡ true

-- No link leads to a new node.
abbrev pub NoneLeadsOn : Network → Ways → Type 0
NoneLeadsOn net ways = (e : ℕ) (link : Link) → IsLink net e link → leads_on ways link ≡ false

-- Each known walk is a walk of unbounded links from the source to its node, and the walk to the source is known.
pub record AreWays (net : Network) (ways : Ways) : Type 0 where
  pub count : length ways ≡ net.nodes
  pub source : (way : List ℕ) × (walk_to ways net.source ≡ Some way)
  pub walks : (v : ℕ) (way : List ℕ) → walk_to ways v ≡ Some way → IsUnboundedWalk net way net.source v

-- In addition, a walk is known to each node to which a walk of unbounded links leads.
pub record AreAllWays (net : Network) (ways : Ways) : Type 0 where
  pub each : AreWays net ways
  pub all : (walk : List ℕ) (v : ℕ) → IsUnboundedWalk net walk net.source v → (way : List ℕ) × (walk_to ways v ≡ Some way)
