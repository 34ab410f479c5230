-- The links at each node, in link order.
use Rattle.std.specs.Prelude.{◌≡◌, ◌≢◌, ◌<◌, ◌≤◌, ℕ, suc, List, length, slice_get, Some}
use Rattle.nf_model.specs.Network.{Link, Network, IsLink}
use Rattle.nf_thin_balance.specs.declared.links_at.LinksAt.{LinksAt}

-- No link from number `from` on and before number `next` is at node v.
pub record IsNextAt (net : Network) (v from next : ℕ) : Type 0 where
  pub later : from ≤ next
  pub within : next ≤ length net.links
  pub none : (k : ℕ) (link : Link) → from ≤ k → k < next → IsLink net k link → (link.tail ≢ v) × (link.head ≢ v)

-- Of each node the first link from number e on, and of each such link the next ones at its ends.
pub record HasLinksFrom (net : Network) (e : ℕ) (first at_tail at_head : List ℕ) : Type 0 where
  pub nodes : length first ≡ net.nodes
  pub tails : length at_tail ≡ length net.links
  pub heads : length at_head ≡ length net.links
  pub first_are : (v i : ℕ) → slice_get first v ≡ Some i → IsNextAt net v e i
  pub tail_are : (k i : ℕ) (link : Link) → e ≤ k → IsLink net k link → slice_get at_tail k ≡ Some i → IsNextAt net link.tail (suc k) i
  pub head_are : (k i : ℕ) (link : Link) → e ≤ k → IsLink net k link → slice_get at_head k ≡ Some i → IsNextAt net link.head (suc k) i

-- The same for all links.
abbrev pub HasLinks : Network → LinksAt → Type 0
HasLinks net links = HasLinksFrom net 0 links.first.items links.at_tail.items links.at_head.items
