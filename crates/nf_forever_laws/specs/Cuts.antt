-- Static cuts of a network and their capacities.
use Rattle.std.specs.Prelude.{◌≡◌, ◌⊎◌, ℕ, Bool, true, false, List, [], ◌∷◌, Option, Some, None}
use Rattle.nf_rational.specs.Rational.{ℚ}
use Rattle.nf_rational.specs.Operations.{0ℚ, ◌+ℚ◌}
use Rattle.nf_rational.specs.Order.{◌≤ℚ◌, ◌<ℚ◌}
use Rattle.nf_model.specs.Network.{Link, Piece, Network, IsNetwork, IsLink}
use Rattle.nf_model_laws.specs.MemberLaws.{one_link}

-- A set of nodes: `cut v` is true if the node v is in the set.
abbrev pub Cut : Type 0
Cut = ℕ → Bool

-- The link leaves the set: its tail is in the set, and its head is not.
pub record LeadsOut (cut : Cut) (link : Link) : Type 0 where
  pub tail : cut link.tail ≡ true
  pub head : cut link.head ≡ false

-- The set is a static cut: it contains the source and not the sink, and no unbounded link leaves it.
pub record IsStaticCut (net : Network) (cut : Cut) : Type 0 where
  pub source : cut net.source ≡ true
  pub sink : cut net.sink ≡ false
  pub unbounded : (e : ℕ) (link : Link) → IsLink net e link → link.capacity ≡ None → LeadsOut cut link → ⊥

-- The outward capacity of a link: its capacity if its tail is in the set and its head is not, and 0 otherwise.
abbrev pub outward_capacity : Bool → Bool → Option ℚ → ℚ
outward_capacity true false (Some capacity) = capacity
outward_capacity tail head capacity = 0ℚ

-- The sum of the outward capacities of a list of links.
abbrev pub capacity_sum : List Link → Cut → ℚ
capacity_sum [] cut = 0ℚ
capacity_sum (link ∷ links) cut = outward_capacity (cut link.tail) (cut link.head) link.capacity +ℚ capacity_sum links cut

-- The capacity of a cut: the sum of the capacities of the links that leave it.
abbrev pub cut_capacity : Network → Cut → ℚ
cut_capacity net cut = capacity_sum net.links cut

-- The least capacity of a static cut: one static cut has it, and none has less.
pub record IsLeastCapacity (net : Network) (least : ℚ) : Type 0 where
  pub attained : (cut : Cut) × IsStaticCut net cut × (cut_capacity net cut ≡ least)
  pub bound : (cut : Cut) → IsStaticCut net cut → least ≤ℚ cut_capacity net cut

-- ---- theorems

-- The capacity of each static cut is above 0, since some walk leads from the source to the sink.
abbrev pub CutsHaveCapacity : Type 0
CutsHaveCapacity = (net : Network) (cut : Cut) → IsNetwork net → IsStaticCut net cut → 0ℚ <ℚ cut_capacity net cut

-- A network has a static cut of the least capacity, or it has no static cut.
abbrev pub LeastCapacityExists : Type 0
LeastCapacityExists = (net : Network) → IsNetwork net → ((least : ℚ) × IsLeastCapacity net least) ⊎ ((cut : Cut) → IsStaticCut net cut → ⊥)

-- In the network of one link from source to sink, the capacity of the link is the least one. If the link is unbounded, there is no cut.
pub record OneLinkIsLeastCut : Type 0 where
  pub bounded : (transit capacity : ℚ) (pieces : List Piece) → IsLeastCapacity (one_link transit (Some capacity) pieces) capacity
  pub unbounded : (transit : ℚ) (pieces : List Piece) (cut : Cut) → IsStaticCut (one_link transit None pieces) cut → ⊥
