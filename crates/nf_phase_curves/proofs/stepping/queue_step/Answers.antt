use Rattle.std.proofs.Common.{sym, ◌∙◌}
use Rattle.nf_phase_curves.proofs.Common.{err_from_is_err_and, passes_Q}
use Rattle.nf_phase_curves.proofs.Queued.{size_passes, slope_passes, queue_step_is}
use Rattle.nf_phase_curves.proofs.stepping.queue_step.Goals as goal

pub returns-in_err-slope-in-Some : goal.returns-in_err-slope-in-Some
returns-in_err-slope-in-Some c =
    let p = err_from_is_err_and c.from_residual-in_err-slope-in-Some.result c.from_residual-in_err-slope-in-Some.ensures.1 in
    rw (p.1, p.2) (rw c.in-Some.is (sym (slope_passes passes_Q _ c.args.link.now c.in-Some.rate _ _ c.in_ok-size-in-Some.size c.is_positive.result c.in_err-slope-in-Some.field-0.0
    c.link.view_is (sym c.sum.ensures ∙ c.in-Ok-at.is) (sym c.difference.ensures ∙ c.in-Ok-at-slack.is) c.is_positive.ensures
    (sym c.in_ok-size-in-Some.ensures) (sym c.in_err-slope-in-Some.ensures))))

pub returns-in_err-size-in-Some : goal.returns-in_err-size-in-Some
returns-in_err-size-in-Some c =
    let p = err_from_is_err_and c.from_residual.result c.from_residual.ensures.1 in
    rw (p.1, p.2) (rw c.in-Some.is (sym (size_passes passes_Q _ c.args.link.now c.in-Some.rate _ _ c.is_positive.result c.in_err-size-in-Some.field-0.0
    c.link.view_is (sym c.sum.ensures ∙ c.in-Ok-at.is) (sym c.difference.ensures ∙ c.in-Ok-at-slack.is) c.is_positive.ensures (sym c.in_err-size-in-Some.ensures))))

pub returns-in_ok-slope-in-Some : goal.returns-in_ok-slope-in-Some
returns-in_ok-slope-in-Some c =
    rw c.in-Some.is (sym (queue_step_is passes_Q _ c.args.link.now c.in-Some.rate _ _ c.in_ok-size-in-Some.size c.in_ok-slope-in-Some.slope c.is_positive.result
    c.link.view_is (sym c.sum.ensures ∙ c.in-Ok-at.is) (sym c.difference.ensures ∙ c.in-Ok-at-slack.is) c.is_positive.ensures
    (sym c.in_ok-size-in-Some.ensures) (sym c.in_ok-slope-in-Some.ensures)))
