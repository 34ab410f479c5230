use Rattle.std.proofs.Common.{◌≡◌}
use Rattle.nf_phase_curves.proofs.Common.{seen_flow, all_grown, flow_so_far}
use Rattle.nf_phase_curves.proofs.flows.finish_flow.Given as goal

abbrev pub invariant-loop-curves : goal.invariant-loop-curves
invariant-loop-curves l = seen_flow l.flow ≡ flow_so_far l.fn.reached (all_grown l.fn.labels.items) (all_grown l.yielded)
