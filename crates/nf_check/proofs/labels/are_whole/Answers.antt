use Rattle.std.proofs.Common.{◌≡◌, ◌≤◌, List, length, subst, arith, Ok}
use Rattle.nf_check.proofs.Common.{passes_Q, Point, checked_cut, next_curve}
use Rattle.nf_check.proofs.labels.are_whole.Goals as goal

pub loop-label-preserved : goal.loop-label-preserved
loop-label-preserved c =
    next_curve (λ (l : List Point). checked_cut passes_Q l c.args.last ≡ Ok l) c.args.labels.now c.loop-label.label-index c.label-item.result
    c.loop-label-test.true c.label-item.is
    (subst (λ (l : List Point). checked_cut passes_Q l c.args.last ≡ Ok l) c.as_points.ensures.points (c.ends_at.ensures.whole c.if-not-ends_at.false)) c.loop-label.invariant

pub returns : goal.returns
returns c =
    let past : length c.args.labels.now ≤ c.loop-label.label-index = omega arith in
    λ yes v h. c.loop-label.invariant v (omega (arith, h, past))
