use Rattle.std.proofs.Common.{◌≡◌, ◌≤◌, length, true, false, List, Some, refl, sym, ap, ◌∙◌, arith}
use Rattle.nf_check.proofs.Common.{at_drop_all, ℚ, 0ℚ, lt_ℚ, negative_point}
use Rattle.nf_check_rules.proofs.PointByPoint.{is_negative, not_negative}
use Rattle.nf_check.proofs.labels.negative_point.Goals as goal

pub loop-i-init : goal.loop-i-init
loop-i-init c = refl

pub returns-then-is_below : goal.returns-then-is_below
returns-then-is_below c =
    let t : lt_ℚ c.point-time.result.1 0ℚ ≡ true = ap (λ (z : ℚ). lt_ℚ c.point-time.result.1 z) (sym c.zero.ensures) ∙ sym c.is_below.ensures ∙ c.if-is_below.true in
    ap (λ (z : ℚ). Some (record { time = c.point-time.result.0; left = c.point-time.result.1; right = z })) c.zero-then-is_below.ensures
    ∙ sym (is_negative c.args.curve.now.points c.loop-i.i c.loop-i.invariant c.point-time.result c.point-time.ensures t)

pub loop-i-preserved : goal.loop-i-preserved
loop-i-preserved c =
    let t : lt_ℚ c.point-time.result.1 0ℚ ≡ false = ap (λ (z : ℚ). lt_ℚ c.point-time.result.1 z) (sym c.zero.ensures) ∙ sym c.is_below.ensures ∙ c.if-is_below.false in
    not_negative c.args.curve.now.points c.loop-i.i c.loop-i.invariant c.point-time.result c.point-time.ensures t

pub returns : goal.returns
returns c =
    let past : length c.args.curve.now.points ≤ c.loop-i.i = omega arith in
    sym (sym c.loop-i.invariant ∙ at_drop_all (λ (l : List (ℚ × ℚ)). negative_point l) c.args.curve.now.points c.loop-i.i past)
