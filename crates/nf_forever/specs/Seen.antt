-- The result of a run without a horizon that a value of this crate represents.
use Rattle.std.specs.Prelude.{option_map}
use Rattle.nf_curve.specs.Flows.{seen_flow}
use Rattle.nf_phase_def.specs.ToEnd as runs
use Rattle.nf_forever_def.specs.ForeverRun as forever_runs
use Rattle.nf_forever.specs.declared.forever.Tail.{Tail}
use Rattle.nf_forever.specs.declared.forever.Forever.{Forever}

abbrev pub tail_in : Tail → runs.Tail
tail_in tail = record { slopes = tail.slopes.items; flows = tail.flows.items }

abbrev pub forever_in : Forever → forever_runs.Forever
forever_in forever = record {
  flow = seen_flow forever.flow;
  phases = forever.phases;
  last = forever.last;
  stop = forever.stopped;
  tail = option_map tail_in forever.tail;
}
