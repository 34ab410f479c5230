use Rattle.std.proofs.Common.{◌<◌, ◌≤◌, length, sym, ◌∙◌, arith}
use Rattle.nf_check_rules.proofs.PointByPoint.{falls, rises, no_fall}
use Rattle.nf_check_rules.proofs.inflows.first_fall.Goals as goal

pub returns-then-is_below : goal.returns-then-is_below
returns-then-is_below c =
    let some : 0 < c.loop-i.i = omega arith in
    sym (falls c.args.curve.now.points c.loop-i.i some c.loop-i.invariant c.point-time.result c.point-next.result c.point-time.ensures c.point-next.ensures
    (sym c.is_below.ensures ∙ c.if-is_below.true))

pub loop-i-preserved : goal.loop-i-preserved
loop-i-preserved c =
    let some : 0 < c.loop-i.i = omega arith in
    rises c.args.curve.now.points c.loop-i.i some c.loop-i.invariant c.point-time.result c.point-next.result c.point-time.ensures c.point-next.ensures
    (sym c.is_below.ensures ∙ c.if-is_below.false)

pub returns : goal.returns
returns c =
    let some : 0 < c.loop-i.i = omega arith in
    let past : length c.args.curve.now.points ≤ c.loop-i.i = omega (arith, c.len-i-end.ensures.count) in
    sym (no_fall c.args.curve.now.points c.loop-i.i some c.loop-i.invariant past)
