-- Conservation of flow at a node, by the ranges of its links' flows, for known slopes.
use Rattle.std.specs.Prelude.{◌≡◌, ◌<◌, ℕ, Bool, true, List, take, Some, slice_get, eqb, if◌then◌else◌}
use Rattle.nf_rational.specs.Rational.{ℚ}
use Rattle.nf_rational.specs.Operations.{0ℚ, ◌-ℚ◌, neg_ℚ}
use Rattle.nf_model.specs.Entries.{number_at}
use Rattle.nf_model.specs.Network.{Link, Network, IsLink, sum_in, sum_out}
use Rattle.nf_model.specs.ThinFlow.{Sets}
use Rattle.nf_model.specs.Pattern.{Pattern, Solves, Meets}
use Rattle.nf_thin_balance.specs.declared.ranges.Range.{Range}
use Rattle.nf_thin_balance.specs.Ranges.{IsInRange, IsFull, scaled}

-- The ranges have the scaled flows that fill the links of a network at these slopes of the nodes.
abbrev pub AreFull : ℕ → Network → List ℚ → List Range → Type 0
AreFull scale net slopes full = (e : ℕ) (range : Range) → slice_get full e ≡ Some range
    → (link : Link) → IsLink net e link → IsFull scale link.capacity (number_at slopes link.head) range

-- The scaled flow of each link.
abbrev pub scaled_flow : ℕ → List ℚ → ℕ → ℚ
scaled_flow scale flows e = scaled scale (number_at flows e)

-- These flows solve the pattern and meet its inequalities, with the slopes by which `full` was found.
pub record CanFlow (scale : ℕ) (net : Network) (sets : Sets) (rate : ℚ) (pattern : Pattern) (full : List Range)
    (flows : List ℚ) : Type 0 where
  pub slopes : List ℚ
  pub full_are : AreFull scale net slopes full
  pub solves : Solves net sets rate pattern flows slopes
  pub meets : Meets net pattern flows slopes

-- Each link's flow is within its range.
abbrev pub AreFlowsWithin : List Range → (ℕ → ℚ) → Type 0
AreFlowsWithin ranges flow = (e : ℕ) (range : Range) → slice_get ranges e ≡ Some range → IsInRange range (flow e)

-- The surplus of a node, its outflow less its inflow, if links carry these flows.
abbrev pub surplus_by : Network → (ℕ → ℚ) → ℕ → ℚ
surplus_by net flow v = sum_out net.links flow v -ℚ sum_in net.links flow v

-- The surplus of a node on the first `count` links.
abbrev pub surplus_of_first : Network → (ℕ → ℚ) → ℕ → ℕ → ℚ
surplus_of_first net flow v count = sum_out (take count net.links) flow v -ℚ sum_in (take count net.links) flow v

-- The surplus of node v on the first `count` links is in this range, for all flows within the links' ranges.
abbrev pub BoundsFirst : Network → List Range → ℕ → ℕ → Range → Type 0
BoundsFirst net ranges v count range = (flow : ℕ → ℚ) → AreFlowsWithin ranges flow → IsInRange range (surplus_of_first net flow v count)

-- The surplus of each node on the first `count` links is in the node's range, for all flows within the links' ranges.
abbrev pub BoundEach : Network → List Range → ℕ → List Range → Type 0
BoundEach net ranges count nodes = (v : ℕ) (range : Range) → slice_get nodes v ≡ Some range → BoundsFirst net ranges v count range

-- The surplus of each node is in the node's range.
abbrev pub AreSurpluses : Network → List Range → (ℕ → ℚ) → Type 0
AreSurpluses net nodes flow = (v : ℕ) (range : Range) → slice_get nodes v ≡ Some range → IsInRange range (surplus_by net flow v)

-- The surplus that a node needs: `rate` at the source, minus `rate` at the sink, and 0 elsewhere.
abbrev pub needed_at : Network → ℚ → ℕ → ℚ
needed_at net rate v = if eqb v net.sink then neg_ℚ rate else (if eqb v net.source then rate else 0ℚ)

-- Each node has the surplus that it needs.
abbrev pub BalancesNodes : Network → ℚ → (ℕ → ℚ) → Type 0
BalancesNodes net rate flow = (v : ℕ) → v < net.nodes → surplus_by net flow v ≡ needed_at net rate v

-- Each node has the surplus that it needs for a supply within the range.
abbrev pub IsConserved : Network → Range → (ℕ → ℚ) → Type 0
IsConserved net supply flow = (rate : ℚ) × IsInRange supply rate × BalancesNodes net rate flow

-- If a flow within the old ranges is conserved at every node, `fits` is true and the flow is within the new ranges.
abbrev pub KeepsFlows : Network → Range → List Range → List Range → Bool → Type 0
KeepsFlows net supply before after fits = (flow : ℕ → ℚ) → AreFlowsWithin before flow → IsConserved net supply flow
    → (fits ≡ true) × AreFlowsWithin after flow
