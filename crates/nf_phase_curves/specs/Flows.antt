-- The flow over time by growing curves.
use Rattle.std.specs.Prelude.{List, [], ◌∷◌, ◌++◌, map}
use Rattle.nf_rational.specs.Rational.{ℚ}
use Rattle.nf_model.specs.Curve.{Point}
use Rattle.nf_model.specs.Equilibrium.{Trace, Flow}
use Rattle.nf_thin_def.specs.ReportCurves.{GrowingCurve, LinkCurves}

-- The flow up to the departure `reached`, by the curves of all nodes and links.
abbrev pub flow_so_far : ℚ → List GrowingCurve → List LinkCurves → Flow
flow_so_far reached labels links = record {
  reached = reached;
  labels = map (λ c. c.points) labels;
  inflows = map (λ c. c.inflow) links;
  outflows = map (λ c. c.outflow) links;
  queues = map (λ c. c.queue.points) links;
}

-- The flow with one more link.
abbrev pub with_link : Flow → Trace → Trace → List Point → Flow
with_link flow inflow outflow queue = record {
  reached = flow.reached;
  labels = flow.labels;
  inflows = flow.inflows ++ inflow ∷ [];
  outflows = flow.outflows ++ outflow ∷ [];
  queues = flow.queues ++ queue ∷ [];
}
