use Rattle.std.proofs.Common.{List, [], ◌∷◌, ◌++◌, sym, ap, ◌∙◌, Ok}
use Rattle.nf_curve.proofs.Common.{err_from_is_err_and, ℚ, passes_Q, points_before, checked_value}
use Rattle.nf_curve_def.specs.Values.{checked_cut}
use Rattle.nf_curve.proofs.Exits.{after_err, after_ok}
use Rattle.nf_curve.proofs.cut.cut_points.Goals as goal

pub returns-in_err-value : goal.returns-in_err-value
unfolding checked_cut
returns-in_err-value c =
    let p = err_from_is_err_and c.from_residual.result c.from_residual.ensures.1 in
    rw (p.1, p.2) (after_err c.args.part (checked_value passes_Q c.args.points.now c.args.last) _ c.in_err-value.field-0.0 (sym c.in_err-value.ensures))

pub returns : goal.returns
unfolding checked_cut
returns c = after_ok c.args.part (checked_value passes_Q c.args.points.now c.args.last) _ c.in_ok-value.value (sym c.in_ok-value.ensures)
    ∙ ap (λ (l : List (ℚ × ℚ)). Ok l) (sym (c.in_ok-push.ensures.items ∙ ap (λ (l : List (ℚ × ℚ)). l ++ (c.args.last, c.in_ok-value.value) ∷ [])
    (c.in_ok-add_before.ensures ∙ ap (λ (l : List (ℚ × ℚ)). l ++ points_before c.args.last c.args.points.now) c.in_ok-cut.ensures.items)))

pub returns-in_err-cut : goal.returns-in_err-cut
returns-in_err-cut c =
    let p = err_from_is_err_and c.from_residual-in_err-cut.result c.from_residual-in_err-cut.ensures.1 in rw (p.1, p.2) tt

pub returns-in_err-add_before : goal.returns-in_err-add_before
returns-in_err-add_before c =
    let p = err_from_is_err_and c.from_residual-in_err-add_before.result c.from_residual-in_err-add_before.ensures.1 in rw (p.1, p.2) tt

pub returns-in_err-push : goal.returns-in_err-push
returns-in_err-push c =
    let p = err_from_is_err_and c.from_residual-in_err-push.result c.from_residual-in_err-push.ensures.1 in rw (p.1, p.2) tt
