use Rattle.nf_phase_laws.proofs.Common.{inflow, label, outflow, queue}
use Rattle.nf_phase_laws.proofs.Holds.{IsNashFlow-from_HoldsUpTo}
use Rattle.nf_phase_laws.proofs.Description.{IsOutflow-described, IsQueue-described}
use Rattle.nf_phase_laws.proofs.description_makes_equilibrium.Goals as goal

pub returns : goal.returns
returns c net flow good holds describes shape inflow_rates outflow_rates = record {
  reached = holds.begun;
  shape = shape;
  nash = IsNashFlow-from_HoldsUpTo net (inflow flow) (label flow) flow.reached good holds;
  inflow_rates = inflow_rates;
  outflow_rates = outflow_rates;
  outflows = IsOutflow-described net (inflow flow) (label flow) (outflow flow) (queue flow) flow.reached good holds describes;
  queues = IsQueue-described net (inflow flow) (label flow) (outflow flow) (queue flow) flow.reached good holds describes;
}
