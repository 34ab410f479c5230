use Rattle.std.proofs.Common.{refl}
use Rattle.nf_rational.specs.Operations.{◌+ℚ◌}
use Rattle.nf_model_laws.proofs.Queues.{IsOutflow-from_IsQueue, IsQueue-from_IsOutflow}
use Rattle.nf_model_laws.proofs.outflow_is_inflow_less_queue.Goals as goal

pub returns : goal.returns
returns c = record {
  outflow = λ transit capacity amount time queue h p. IsOutflow-from_IsQueue transit capacity amount time (time +ℚ transit) queue refl h p;
  queue = λ transit capacity amount time out h p. IsQueue-from_IsOutflow transit capacity amount time (time +ℚ transit) out refl h p;
}
