-- Extensions of the curves of a description over a phase, by one point each.
use Rattle.std.specs.Prelude.{◌≡◌, ℕ, List}
use Rattle.nf_rational.specs.Rational.{ℚ}
use Rattle.nf_rational.specs.Operations.{0ℚ, ◌+ℚ◌, ◌*ℚ◌}
use Rattle.nf_rational.specs.Order.{◌≤ℚ◌, ◌<ℚ◌}
use Rattle.nf_model.specs.Curve.{Point}
use Rattle.nf_model.specs.Network.{Link, Network, IsNetwork, IsLink}
use Rattle.nf_phase_laws.specs.Invariant.{link_slack, queue_by_slack, HoldsUpTo, GoesOn}
use Rattle.nf_phase_laws.specs.Description.{DescribesLinks, DescriptionGoesOn}
use Rattle.nf_phase_laws.specs.CurveSteps.{LastPoint, GoesOnTo, at}

-- Each outflow ends at the label of its link's head, and each queue at the label of its link's tail.
pub record DescriptionStands (net : Network) (label : ℕ → ℚ → ℚ) (outflows queues : ℕ → List Point) (until : ℚ) : Type 0 where
  pub outflows_end : (e : ℕ) (link : Link) → IsLink net e link
      → LastPoint (outflows e) (label link.head until, at outflows e (label link.head until))
  pub queues_end : (e : ℕ) (link : Link) → IsLink net e link
      → LastPoint (queues e) (label link.tail until, at queues e (label link.tail until))

-- Over a phase of this length each outflow is extended by the flow per departure, if the label of the head rises. Each queue is extended to
-- the queue of the slack at the end, if the label of the tail rises. Otherwise the curve is unchanged.
pub record DescriptionCurvesGoOn (net : Network) (label label' : ℕ → ℚ → ℚ) (outflows queues : ℕ → List Point) (until length : ℚ)
    (flow slope : ℕ → ℚ)
    (outflows' queues' : ℕ → List Point) : Type 0 where
  pub outflows_go : (e : ℕ) (link : Link) → IsLink net e link → 0ℚ <ℚ slope link.head
      → GoesOnTo (outflows e) (outflows' e) (label link.head until, at outflows e (label link.head until))
      (label link.head until +ℚ slope link.head *ℚ length, at outflows e (label link.head until) +ℚ flow e *ℚ length)
  pub outflows_stay : (e : ℕ) (link : Link) → IsLink net e link → slope link.head ≡ 0ℚ → outflows' e ≡ outflows e
  pub queues_go : (e : ℕ) (link : Link) → IsLink net e link → 0ℚ <ℚ slope link.tail
      → GoesOnTo (queues e) (queues' e) (label link.tail until, at queues e (label link.tail until))
      (label link.tail until +ℚ slope link.tail *ℚ length, queue_by_slack link.capacity (link_slack label' link (until +ℚ length)))
  pub queues_stay : (e : ℕ) (link : Link) → IsLink net e link → slope link.tail ≡ 0ℚ → queues' e ≡ queues e

-- The description is then extended in the same way, if the invariant holds at the start and at the end, and no flow reaches a node with a
-- constant label. The new curves end where the phase ends.
pub record CurvesMakeDescription : Type 0 where
  pub description : (net : Network) (amount label amount' label' : ℕ → ℚ → ℚ) (until length : ℚ) (flow slope : ℕ
      → ℚ) (outflows queues outflows' queues' : ℕ → List Point) → IsNetwork net
      → 0ℚ <ℚ length → ((v : ℕ) → 0ℚ ≤ℚ slope v) → ((e : ℕ) (link : Link) → IsLink net e link → slope link.head ≡ 0ℚ → flow e ≡ 0ℚ)
      → HoldsUpTo net amount label until → HoldsUpTo net amount' label' (until +ℚ length)
      → GoesOn net amount label until length flow slope amount' label'
      → DescribesLinks net amount label (at outflows) (at queues) until → DescriptionStands net label outflows queues until
      → DescriptionCurvesGoOn net label label' outflows queues until length flow slope outflows' queues'
      → DescriptionGoesOn net label until length flow slope label' (at outflows) (at queues) (at outflows') (at queues')
  pub stands : (net : Network) (amount label amount' label' : ℕ → ℚ → ℚ) (until length : ℚ) (flow slope : ℕ
      → ℚ) (outflows queues outflows' queues' : ℕ → List Point) → IsNetwork net
      → 0ℚ <ℚ length → ((v : ℕ) → 0ℚ ≤ℚ slope v) → ((e : ℕ) (link : Link) → IsLink net e link → slope link.head ≡ 0ℚ → flow e ≡ 0ℚ)
      → HoldsUpTo net amount label until → HoldsUpTo net amount' label' (until +ℚ length)
      → GoesOn net amount label until length flow slope amount' label'
      → DescribesLinks net amount label (at outflows) (at queues) until → DescriptionStands net label outflows queues until
      → DescriptionCurvesGoOn net label label' outflows queues until length flow slope outflows' queues'
      → DescriptionStands net label' outflows' queues' (until +ℚ length)
