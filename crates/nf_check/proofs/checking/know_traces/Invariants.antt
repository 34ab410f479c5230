use Rattle.std.proofs.Common.{ℕ, ◌<◌, map}
use Rattle.nf_check.proofs.Common.{IsCurve, points_at, points_of, seen_trace}
use Rattle.nf_check.proofs.checking.know_traces.Given as goal

abbrev pub invariant-loop-trace : goal.invariant-loop-trace
invariant-loop-trace l = (k : ℕ) → k < l.trace-index → IsCurve (points_at (points_of (map seen_trace l.traces)) k)
