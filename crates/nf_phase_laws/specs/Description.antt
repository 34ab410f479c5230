-- The outflow and the queue of each link over time, described by departure.
use Rattle.std.specs.Prelude.{◌≡◌, ℕ, List}
use Rattle.nf_rational.specs.Rational.{ℚ}
use Rattle.nf_rational.specs.Operations.{0ℚ, ◌+ℚ◌, ◌*ℚ◌}
use Rattle.nf_rational.specs.Order.{◌≤ℚ◌}
use Rattle.nf_model.specs.Entries.{number_at}
use Rattle.nf_model.specs.Curve.{Within}
use Rattle.nf_model.specs.Network.{Link, Network, IsNetwork, IsLink, hops, rate_at}
use Rattle.nf_model.specs.Queue.{IsQueue, IsOutflow}
use Rattle.nf_model.specs.Equilibrium.{Flow, label, inflow, outflow, queue, HasShape, HasSlopes, Equilibrium}
use Rattle.nf_model.specs.ThinFlow.{slacks_of, sets_at, IsThinFlow}
use Rattle.nf_model.specs.Phases.{Lasts, AreStartLabels}
use Rattle.nf_model_laws.specs.Affine.{IsAffine}
use Rattle.nf_phase_laws.specs.Invariant.{link_slack, queue_by_slack, sent, HoldsUpTo, LabelsAre, StartsEmpty, GoesOn}

-- For each departure, the outflow by the label of the head equals the amount sent into the link. The queue at the label of the tail is the
-- queue of the slack. Before the labels of departure 0 both are 0.
pub record DescribesLinks (net : Network) (amount label outflow queue : ℕ → ℚ → ℚ) (until : ℚ) : Type 0 where
  pub outflows : (e : ℕ) (link : Link) (departure : ℚ) → IsLink net e link → Within 0ℚ until departure
      → outflow e (label link.head departure) ≡ sent net amount label e departure
  pub outflows_early : (e : ℕ) (link : Link) (time : ℚ) → IsLink net e link → Within 0ℚ (label link.head 0ℚ) time → outflow e time ≡ 0ℚ
  pub queues : (e : ℕ) (link : Link) (departure : ℚ) → IsLink net e link → Within 0ℚ until departure
      → queue e (label link.tail departure) ≡ queue_by_slack link.capacity (link_slack label link departure)
  pub queues_early : (e : ℕ) (link : Link) (time : ℚ) → IsLink net e link → Within 0ℚ (label link.tail 0ℚ) time → queue e time ≡ 0ℚ

-- The extension of a description over a phase. Values before the phase stay. While the head's label rises, the outflow has one rate, which
-- per departure is `flow`. While the tail's label rises, the queue changes at one rate, up to the queue of the slack at the end.
pub record DescriptionGoesOn (net : Network) (label : ℕ → ℚ → ℚ) (until length : ℚ) (flow slope : ℕ → ℚ)
    (label' outflow queue outflow' queue' : ℕ → ℚ → ℚ) : Type 0 where
  pub outflow_before : (e : ℕ) (link : Link) (time : ℚ) → IsLink net e link → Within 0ℚ (label link.head until) time
      → outflow' e time ≡ outflow e time
  pub outflow_after : (e : ℕ) (link : Link) → IsLink net e link → (rate : ℚ) × (rate *ℚ slope link.head ≡ flow e)
      × IsAffine (outflow' e) (label link.head until) (label link.head until +ℚ slope link.head *ℚ length) rate
  pub queue_before : (e : ℕ) (link : Link) (time : ℚ) → IsLink net e link → Within 0ℚ (label link.tail until) time
      → queue' e time ≡ queue e time
  pub queue_after : (e : ℕ) (link : Link) → IsLink net e link
      → (rate : ℚ) × IsAffine (queue' e) (label link.tail until) (label link.tail until +ℚ slope link.tail *ℚ length) rate
  pub queue_end : (e : ℕ) (link : Link) → IsLink net e link
      → queue' e (label link.tail until +ℚ slope link.tail *ℚ length)
      ≡ queue_by_slack link.capacity (link_slack label' link (until +ℚ length))

-- A description is correct: if the invariant of phases holds, it gives the outflow and the queue of each link.
pub record DescriptionIsRight : Type 0 where
  pub outflows : (net : Network) (amount label outflow queue : ℕ → ℚ → ℚ) (until : ℚ) → IsNetwork net → HoldsUpTo net amount label until
      → DescribesLinks net amount label outflow queue until
      → (e : ℕ) (link : Link) (time : ℚ) → IsLink net e link → Within 0ℚ (label link.head until) time
      → IsOutflow link.transit link.capacity (amount e) time (outflow e time)
  pub queues : (net : Network) (amount label outflow queue : ℕ → ℚ → ℚ) (until : ℚ) → IsNetwork net → HoldsUpTo net amount label until
      → DescribesLinks net amount label outflow queue until
      → (e : ℕ) (link : Link) (time : ℚ) → IsLink net e link → Within 0ℚ (label link.tail until) time
      → IsQueue link.capacity (amount e) time (queue e time)

-- The description holds at the start, where outflows and queues are 0, and each phase preserves it.
pub record PhasesKeepDescription : Type 0 where
  pub begins : (net : Network) (labels : List ℚ) (amount label outflow queue : ℕ → ℚ → ℚ) → IsNetwork net → AreStartLabels net labels
      → StartsEmpty net labels amount label
      → ((e : ℕ) (link : Link) (time : ℚ) → IsLink net e link → 0ℚ ≤ℚ time → outflow e time ≡ 0ℚ)
      → ((e : ℕ) (link : Link) (time : ℚ) → IsLink net e link → 0ℚ ≤ℚ time → queue e time ≡ 0ℚ)
      → DescribesLinks net amount label outflow queue 0ℚ
  pub phase : (net : Network) (amount label amount' label' : ℕ → ℚ → ℚ) (until length : ℚ) (labels flows slopes : List ℚ)
      (outflow queue outflow' queue' : ℕ → ℚ → ℚ)
      → IsNetwork net → HoldsUpTo net amount label until → LabelsAre net label until labels
      → IsThinFlow net (sets_at net labels) (rate_at net until) flows slopes
      → Lasts net (slacks_of (hops net) labels) slopes until length
      → GoesOn net amount label until length (number_at flows) (number_at slopes) amount' label'
      → DescribesLinks net amount label outflow queue until
      → DescriptionGoesOn net label until length (number_at flows) (number_at slopes) label' outflow queue outflow' queue'
      → DescribesLinks net amount' label' outflow' queue' (until +ℚ length)

-- A flow of a report is an equilibrium under three conditions. The invariant holds for its inflows and labels. Its outflows and queues are
-- described by departure. Its curves and rates are well-formed.
abbrev pub DescriptionMakesEquilibrium : Type 0
DescriptionMakesEquilibrium = (net : Network) (flow : Flow) → IsNetwork net → HoldsUpTo net (inflow flow) (label flow) flow.reached
    → DescribesLinks net (inflow flow) (label flow) (outflow flow) (queue flow) flow.reached → HasShape net flow → HasSlopes flow.inflows
    → HasSlopes flow.outflows
    → Equilibrium net flow
