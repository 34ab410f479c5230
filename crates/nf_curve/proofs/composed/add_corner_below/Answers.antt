use Rattle.std.proofs.Common.{sym, ap, ◌∙◌, Ok}
use Rattle.nf_curve.proofs.Common.{err_from_is_err_and, ℚ, lt_ℚ, passes_Q, corner_at}
use Rattle.nf_curve.proofs.Between.{corner_fails, corner_added, corner_passes}
use Rattle.nf_curve.proofs.composed.add_corner_below.Goals as goal

pub returns-then-not-is_below : goal.returns-then-not-is_below
returns-then-not-is_below c =
    corner_fails (corner_at passes_Q c.args.p.now c.args.q.now) c.args.part c.args.composed.now.items
    (λ (x : ℚ × ℚ). lt_ℚ x.0 c.args.bound) c.args.corner.now (sym c.is_below.ensures ∙ c.if-not-is_below.true)

pub returns-in_err-point : goal.returns-in_err-point
returns-in_err-point c =
    let p = err_from_is_err_and c.from_residual.result c.from_residual.ensures.1 in
    rw (p.1, p.2) (corner_passes (corner_at passes_Q c.args.p.now c.args.q.now) c.args.part c.args.composed.now.items (λ (x : ℚ × ℚ). lt_ℚ x.0 c.args.bound) c.args.corner.now
    (sym c.is_below.ensures ∙ c.if-not-is_below.false) c.in_err-point.field-0.0 (sym c.in_err-point.ensures))

pub returns-in_err-push : goal.returns-in_err-push
returns-in_err-push c =
    let p = err_from_is_err_and c.from_residual-in_err-push.result c.from_residual-in_err-push.ensures.1 in rw (p.1, p.2) tt

pub returns : goal.returns
returns c =
    corner_added (corner_at passes_Q c.args.p.now c.args.q.now) c.args.part c.args.composed.now.items (λ (x : ℚ × ℚ). lt_ℚ x.0 c.args.bound) c.args.corner.now
    (sym c.is_below.ensures ∙ c.if-not-is_below.false) c.in_ok-point.point (sym c.in_ok-point.ensures) ∙ ap Ok (sym c.in_ok-push.ensures.items)
