use Rattle.std.proofs.Common.{◌≡◌, ℕ, ◌+◌, ◌%◌}
use Rattle.nf_frac.proofs.Common.{IsGcd}
use Rattle.nf_frac.proofs.whole.gcd_odd.Given as goal

abbrev pub invariant-loop-x : goal.invariant-loop-x
invariant-loop-x l = record {
  left : l.x % 2 ≡ 1;
  right : l.y % 2 ≡ 1;
  same : (g : ℕ) → IsGcd l.x l.y g → IsGcd l.fn.a l.fn.b g;
}

abbrev pub decreases-loop-x : goal.decreases-loop-x
decreases-loop-x l = l.x + l.y
