-- The model's flow that a `Flow` represents.
use Rattle.std.specs.Prelude.{map}
use Rattle.nf_model.specs.Equilibrium as model
use Rattle.nf_curve.specs.declared.flow.Flow.{Flow}
use Rattle.nf_curve.specs.declared.flow.Trace.{Trace}

abbrev pub seen_trace : Trace → model.Trace
seen_trace t = record { points = t.curve.points; rates = t.rates.items }

abbrev pub seen_flow : Flow → model.Flow
seen_flow f = record {
  reached = f.reached;
  labels = map (λ c. c.points) f.labels.items;
  inflows = map seen_trace f.inflows.items;
  outflows = map seen_trace f.outflows.items;
  queues = map (λ c. c.points) f.queues.items;
}
