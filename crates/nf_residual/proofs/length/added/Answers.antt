use Rattle.std.proofs.Common.{ℤ, ◌+ℤ◌}
use Rattle.nf_residual.proofs.WholeLengths.{result_fits, result_small, result_beyond}
use Rattle.nf_residual.proofs.length.added.Goals as goal

pub returns-in-Some : goal.returns-in-Some
returns-in-Some c =
    result_small (λ (x y : ℤ). x +ℤ y) c.args.a c.args.b c.ranges.a c.ranges.b c.in-Some.sum c.unsigned_abs.result (c.in-Some.ensures {u = tt}) c.unsigned_abs.ensures.value
    c.if-unsigned_abs-le-MOST.true

pub returns-in_default : goal.returns-in_default
returns-in_default c =
    result_beyond (λ (x y : ℤ). x +ℤ y) c.args.a c.args.b c.ranges.a c.ranges.b c.in-Some.sum c.unsigned_abs.result (c.in-Some.ensures {u = tt}) c.unsigned_abs.ensures.value
    c.if-unsigned_abs-le-MOST.false

pub returns-in_default-2 : goal.returns-in_default-2
returns-in_default-2 c h = c.in_default.ensures {u = tt} (result_fits (λ (x y : ℤ). x +ℤ y) c.args.a c.args.b c.ranges.a c.ranges.b h)
