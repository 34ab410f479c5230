-- Theorems about earliest arrivals and other least or greatest values.
use Rattle.std.specs.Prelude.{◌≡◌, ◌≢◌, ◌↔◌, ℕ, ◌<◌, List, length}
use Rattle.nf_rational.specs.Rational.{ℚ}
use Rattle.nf_rational.specs.Operations.{0ℚ, ◌+ℚ◌}
use Rattle.nf_rational.specs.Order.{◌≤ℚ◌}
use Rattle.nf_model.specs.Curve.{NeverFalls}
use Rattle.nf_model.specs.Walk.{Hop, IsLeastTransit}
use Rattle.nf_model.specs.Network.{Link, Network, IsLink, IsNetwork, hops}
use Rattle.nf_model.specs.Queue.{IsExit}
use Rattle.nf_model.specs.Earliest.{IsEarliest}
use Rattle.nf_model.specs.Equilibrium.{Flow, HasShape, inflow, label}
use Rattle.nf_model.specs.Phases.{IsExtension, IsPhaseLength}

-- each least transit sum, earliest arrival, extension length and phase length is unique
pub record ExtremesAreUnique : Type 0 where
  pub least_transit : (hops : List Hop) (v w : ℕ) (y z : ℚ) → IsLeastTransit hops v w y → IsLeastTransit hops v w z → y ≡ z
  pub earliest : (net : Network) (amount : ℕ → ℚ → ℚ) (v : ℕ) (departure y z : ℚ)
      → IsEarliest net amount v departure y → IsEarliest net amount v departure z → y ≡ z
  pub extension : (net : Network) (slacks slopes : List ℚ) (time y z : ℚ) → IsExtension net slacks slopes time y
      → IsExtension net slacks slopes time z → y ≡ z
  pub phase_length : (net : Network) (slacks slopes : List ℚ) (time horizon y z : ℚ)
      → IsPhaseLength net slacks slopes time horizon y → IsPhaseLength net slacks slopes time horizon z → y ≡ z

-- Labels of one departure. The source's label is the departure. Entry into a link at its tail's label leads to an exit no earlier than the
-- head's label, unless the head is the source. Into each other node some link leads whose exit is exactly the head's label.
pub record AreLabels (net : Network) (amount : ℕ → ℚ → ℚ) (departure : ℚ) (label : ℕ → ℚ) : Type 0 where
  pub source : label net.source ≡ departure
  pub not_before : (e : ℕ) (link : Link) → IsLink net e link → link.head ≢ net.source
      → (exit : ℚ) × IsExit link.transit link.capacity (amount e) (label link.tail) exit × (label link.head ≤ℚ exit)
  pub entered : (v : ℕ) → v < net.nodes → v ≢ net.source
      → (e : ℕ) × (link : Link) × IsLink net e link × (link.head ≡ v)
      × IsExit link.transit link.capacity (amount e) (label link.tail) (label link.head)

-- no cumulative inflow falls
abbrev pub InflowsRise : Network → (ℕ → ℚ → ℚ) → Type 0
InflowsRise net amount = (e : ℕ) → e < length net.links → NeverFalls (amount e)

-- These labels are the earliest arrivals over all walks. Conversely, earliest arrivals are such labels, if each link has an exit for
-- entry at its tail's label.
pub record LabelsAreEarliest : Type 0 where
  pub to : (net : Network) (amount : ℕ → ℚ → ℚ) (departure : ℚ) (label : ℕ → ℚ) → IsNetwork net → InflowsRise net amount
      → AreLabels net amount departure label
      → (v : ℕ) → v < net.nodes → IsEarliest net amount v departure (label v)
  pub from : (net : Network) (amount : ℕ → ℚ → ℚ) (departure : ℚ) (label : ℕ → ℚ) → IsNetwork net → InflowsRise net amount
      → ((e : ℕ) (link : Link) → IsLink net e link → (exit : ℚ) × IsExit link.transit link.capacity (amount e) (label link.tail) exit)
      → ((v : ℕ) → v < net.nodes → IsEarliest net amount v departure (label v)) → AreLabels net amount departure label

-- The labels of a report, whose inflows are curves, satisfy `AreLabels` at each departure from 0 on exactly if they are the earliest
-- arrivals.
abbrev pub ReportLabelsAreEarliest : Type 0
ReportLabelsAreEarliest = (net : Network) (flow : Flow) (departure : ℚ) → IsNetwork net → HasShape net flow → InflowsRise net (inflow flow)
    → 0ℚ ≤ℚ departure
    → AreLabels net (inflow flow) departure (λ v. label flow v departure)
    ↔ ((v : ℕ) → v < net.nodes → IsEarliest net (inflow flow) v departure (label flow v departure))

-- ---- the corresponding theorem for least transit sums

-- Labels by transit times. The source's label is 0. Each link into another node has at least the difference of its ends' labels as its
-- transit time. Some link into each other node has exactly this difference.
pub record AreTransitLabels (net : Network) (label : ℕ → ℚ) : Type 0 where
  pub source : label net.source ≡ 0ℚ
  pub none_shorter : (e : ℕ) (link : Link) → IsLink net e link → link.head ≢ net.source → label link.head ≤ℚ label link.tail +ℚ link.transit
  pub entered : (v : ℕ) → v < net.nodes → v ≢ net.source
      → (e : ℕ) × (link : Link) × IsLink net e link × (link.head ≡ v) × (label v ≡ label link.tail +ℚ link.transit)

-- labels satisfy `AreTransitLabels` exactly if they are the least transit sums over all walks from the source
abbrev pub LeastTransitByLinks : Type 0
LeastTransitByLinks = (net : Network) (label : ℕ → ℚ) → IsNetwork net
    → AreTransitLabels net label ↔ ((v : ℕ) → v < net.nodes → IsLeastTransit (hops net) net.source v (label v))
