use Rattle.std.proofs.Common.{◌≡◌, ◌++◌, drop}
use Rattle.nf_load.proofs.Common.{outflow_from, outflow_points}
use Rattle.nf_load.proofs.Outflows.{SoFar}
use Rattle.nf_load.proofs.curves.outflow_points.Given as goal

-- the points so far, and those from this moment on; the slopes so far
abbrev pub invariant-loop-index : goal.invariant-loop-index
invariant-loop-index l = record {
  points : l.points.items ++ outflow_from l.last (drop l.index l.all) ≡ outflow_points l.all;
  so_far : SoFar l.all l.points.items l.slopes.items l.last l.known l.index;
}
