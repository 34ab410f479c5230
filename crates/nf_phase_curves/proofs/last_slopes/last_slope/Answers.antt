use Rattle.std.proofs.Common.{◌≡◌, ℕ, ◌-◌, sym, ap, subst, ◌∙◌, arith, Ok, Some, slice_get}
use Rattle.nf_phase_curves.proofs.Common.{err_from_is_err_and, Curve, passes_Q, at_part, checked_slope, after_err, after_ok}
use Rattle.nf_phase_curves.proofs.LastSlopes.{rises_there, few_points, last_slope_there}
use Rattle.nf_phase_curves.proofs.last_slopes.last_slope.Goals as goal

pub slope-requires : goal.slope-requires
slope-requires c =
    let at = subst (λ (n : ℕ). slice_get c.args.curve.now.points (n - 1) ≡ Some c.last.result) (sym c.len-count.ensures.count) c.last.ensures in
    rises_there c.args.curve.now.points (c.len-count.result - 2) (c.len-count.result - 1) c.point.result c.last.result c.len-count.ensures.curve c.point.ensures at (omega arith)

pub returns-then-count-lt2-clause-list : goal.returns-then-count-lt2-clause-list
returns-then-count-lt2-clause-list c = ap (at_part Curve) (sym (few_points passes_Q c.args.curve.now.points (omega arith)))

pub returns-in_err-slope-clause-list : goal.returns-in_err-slope-clause-list
returns-in_err-slope-clause-list c =
    let at = subst (λ (n : ℕ). slice_get c.args.curve.now.points (n - 1) ≡ Some c.last.result) (sym c.len-count.ensures.count) c.last.ensures in
    let p = err_from_is_err_and c.from_residual.result c.from_residual.ensures.1 in
    rw (p.1, p.2) (sym (ap (at_part Curve) (last_slope_there passes_Q c.args.curve.now.points (c.len-count.result - 2)
    (c.len-count.result - 1) c.point.result c.last.result c.point.ensures at (omega arith) (omega arith))
    ∙ after_err Curve (checked_slope passes_Q c.point.result c.last.result) (λ k. Ok (Some k)) c.in_err-slope.field-0.0 (sym c.in_err-slope.ensures)))

pub returns-clause-list : goal.returns-clause-list
returns-clause-list c =
    let at = subst (λ (n : ℕ). slice_get c.args.curve.now.points (n - 1) ≡ Some c.last.result) (sym c.len-count.ensures.count) c.last.ensures in
    sym (ap (at_part Curve) (last_slope_there passes_Q c.args.curve.now.points (c.len-count.result - 2)
    (c.len-count.result - 1) c.point.result c.last.result c.point.ensures at (omega arith) (omega arith))
    ∙ after_ok Curve (checked_slope passes_Q c.point.result c.last.result) (λ k. Ok (Some k)) c.in_ok-slope.slope (sym c.in_ok-slope.ensures))
