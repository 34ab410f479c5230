use Rattle.std.proofs.Common.{◌-◌, sym, subst, ◌∙◌, arith, drop}
use Rattle.nf_check_rules.proofs.Common.{ℚ, 0ℚ, ◌≤ℚ◌, greatest_nn}
use Rattle.nf_check_rules.proofs.PointByPoint.{greater_before}
use Rattle.nf_check_rules.proofs.values.greatest_value.Goals as goal

pub loop-left-preserved : goal.loop-left-preserved
loop-left-preserved c = (
  c.greater-greatest.ensures ∙ greater_before c.args.curve.now.points c.loop-left.left (c.loop-left.left - 1) c.point-value.result c.loop-left.greatest
      (omega arith) c.point-value.ensures c.loop-left.invariant.0,
  omega (arith, c.loop-left.invariant.1),
)

pub returns-clause-nonnegative : goal.returns-clause-nonnegative
returns-clause-nonnegative c = subst (λ (z : ℚ). 0ℚ ≤ℚ z) (sym c.loop-left.invariant.0) (greatest_nn (drop c.loop-left.left c.args.curve.now.points))
