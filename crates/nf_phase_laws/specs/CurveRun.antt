-- Curves that are extended phase by phase from the start.
use Rattle.std.specs.Prelude.{◌≡◌, ℕ, ◌<◌, if◌then◌else◌, List, [], ◌∷◌}
use Rattle.nf_rational.specs.Rational.{ℚ}
use Rattle.nf_rational.specs.Operations.{0ℚ}
use Rattle.nf_rational.specs.Order.{lt_ℚ}
use Rattle.nf_model.specs.Entries.{number_at}
use Rattle.nf_model.specs.Curve.{Point}
use Rattle.nf_model.specs.Network.{Link, Network, IsNetwork, IsLink}
use Rattle.nf_model.specs.Phases.{AreStartLabels, IsPhase}
use Rattle.nf_model.specs.Equilibrium.{Flow, points_at, points_of, HasShape, HasSlopes, Equilibrium}
use Rattle.nf_phase_laws.specs.CurveSteps.{at, CurvesGoOn}
use Rattle.nf_phase_laws.specs.DescriptionCurves.{DescriptionCurvesGoOn}

-- The curves of the nodes and links, by their numbers.
pub record Curves : Type 0 where
  pub labels : ℕ → List Point
  pub inflows : ℕ → List Point
  pub outflows : ℕ → List Point
  pub queues : ℕ → List Point

-- The first curve of an inflow, outflow or queue: 0 from time 0 until the label of departure 0.
abbrev pub first_points : ℚ → List Point
first_points label = if lt_ℚ 0ℚ label then (0ℚ, 0ℚ) ∷ (label, 0ℚ) ∷ [] else (0ℚ, 0ℚ) ∷ []

-- The curves before the first phase, where `labels` are the labels of departure 0.
pub record FirstCurves (net : Network) (labels : List ℚ) (curves : Curves) : Type 0 where
  pub label_curves : (v : ℕ) → v < net.nodes → curves.labels v ≡ (0ℚ, number_at labels v) ∷ []
  pub inflows : (e : ℕ) (link : Link) → IsLink net e link → curves.inflows e ≡ first_points (number_at labels link.tail)
  pub outflows : (e : ℕ) (link : Link) → IsLink net e link → curves.outflows e ≡ first_points (number_at labels link.head)
  pub queues : (e : ℕ) (link : Link) → IsLink net e link → curves.queues e ≡ first_points (number_at labels link.tail)

-- The curves up to a departure, with the labels there. The first labels are the least transit sums. Each phase, with its own horizon,
-- extends each curve by one point, according to its thin flow and length.
pub data GrowByPhases (net : Network) : ℚ → List ℚ → Curves → Type 0 where
  begin : (labels : List ℚ) (curves : Curves) → AreStartLabels net labels → FirstCurves net labels curves
      → GrowByPhases net 0ℚ labels curves
  grow : (horizon time time' : ℚ) (labels labels' : List ℚ) (curves curves' : Curves)
      (phase : IsPhase net horizon (time, labels) (time', labels')) → GrowByPhases net time labels curves
      → CurvesGoOn net curves.inflows curves.labels time phase.length (number_at phase.flows)
      (number_at phase.slopes) curves'.inflows curves'.labels
      → DescriptionCurvesGoOn net (at curves.labels) (at curves'.labels) curves.outflows curves.queues time phase.length
      (number_at phase.flows) (number_at phase.slopes) curves'.outflows curves'.queues
      → GrowByPhases net time' labels' curves'

-- The curves of a flow.
abbrev pub curves_of : Flow → Curves
curves_of flow = record {
  labels = points_at flow.labels;
  inflows = points_at (points_of flow.inflows);
  outflows = points_at (points_of flow.outflows);
  queues = points_at flow.queues;
}

-- A flow is an equilibrium if its curves are built phase by phase from the start, and its curves and rates are well-formed.
abbrev pub PhasesMakeEquilibrium : Type 0
PhasesMakeEquilibrium = (net : Network) (labels : List ℚ) (flow : Flow) → IsNetwork net
    → GrowByPhases net flow.reached labels (curves_of flow)
    → HasShape net flow → HasSlopes flow.inflows → HasSlopes flow.outflows → Equilibrium net flow
