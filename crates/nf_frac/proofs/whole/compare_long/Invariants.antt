use Rattle.std.proofs.Common.{◌≡◌, ◌+◌, ◌*◌, ◌<◌}
use Rattle.nf_frac.proofs.Common.{nat_cmp}
use Rattle.nf_frac.proofs.whole.compare_long.Given as goal

abbrev pub invariant-loop-whole : goal.invariant-loop-whole
invariant-loop-whole l = record {
  left : 0 < l.below;
  right : 0 < l.other_below;
  same : nat_cmp (l.above * l.other_below) (l.other_above * l.below) ≡ nat_cmp (l.fn.a * l.fn.d) (l.fn.c * l.fn.b);
}

abbrev pub decreases-loop-whole : goal.decreases-loop-whole
decreases-loop-whole l = l.below + l.other_below
