use Rattle.std.proofs.Common.{sym, ◌∙◌}
use Rattle.nf_phase_curves.proofs.Common.{err_from_is_err_and, passes_Q, positive_apart}
use Rattle.nf_phase_curves.proofs.Queued.{inflow_passes, outflow_passes, queue_passes, link_step_is}
use Rattle.nf_phase_curves.proofs.stepping.link_step.Goals as goal

pub rate_over-requires : goal.rate_over-requires
rate_over-requires c = λ above. positive_apart c.link.inside.tail_slope (sym c.is_positive.ensures ∙ above)

pub returns-in_err-inflow_rate : goal.returns-in_err-inflow_rate
returns-in_err-inflow_rate c =
    let p = err_from_is_err_and c.from_residual.result c.from_residual.ensures.1 in
    rw (p.1, p.2) (sym (inflow_passes passes_Q c.args.length c.args.so_far _ c.args.link.now _ _ c.link.view_is (sym c.product.ensures ∙ c.in-Ok-at.is)
    (sym c.sum.ensures ∙ c.in-Ok-at-amount.is) c.is_positive.result c.is_positive.ensures c.in_err-inflow_rate.field-0.0
    (sym c.in_err-inflow_rate.ensures)))

pub rate_over-requires-2 : goal.rate_over-requires-2
rate_over-requires-2 c = λ above. positive_apart c.link.inside.head_slope (sym c.is_positive-2.ensures ∙ above)

pub returns-in_err-outflow_rate : goal.returns-in_err-outflow_rate
returns-in_err-outflow_rate c =
    let p = err_from_is_err_and c.from_residual-in_err-outflow_rate.result c.from_residual-in_err-outflow_rate.ensures.1 in
    rw (p.1, p.2) (sym (outflow_passes passes_Q c.args.length c.args.so_far _ c.args.link.now _ _ c.link.view_is (sym c.product.ensures ∙ c.in-Ok-at.is)
    (sym c.sum.ensures ∙ c.in-Ok-at-amount.is) c.is_positive.result c.is_positive.ensures
    c.in_ok-inflow_rate.inflow_rate (sym c.in_ok-inflow_rate.ensures) c.is_positive-2.result c.is_positive-2.ensures c.in_err-outflow_rate.field-0.0 (sym c.in_err-outflow_rate.ensures)))

pub returns-in_err-queue_step : goal.returns-in_err-queue_step
returns-in_err-queue_step c =
    let p = err_from_is_err_and c.from_residual-in_err-queue_step.result c.from_residual-in_err-queue_step.ensures.1 in
    rw (p.1, p.2) (sym (queue_passes passes_Q c.args.length c.args.so_far _ c.args.link.now _ _ c.link.view_is (sym c.product.ensures ∙ c.in-Ok-at.is)
    (sym c.sum.ensures ∙ c.in-Ok-at-amount.is) c.is_positive.result c.is_positive.ensures
    c.in_ok-inflow_rate.inflow_rate (sym c.in_ok-inflow_rate.ensures) c.is_positive-2.result c.is_positive-2.ensures c.in_ok-outflow_rate.outflow_rate (sym c.in_ok-outflow_rate.ensures)
    c.in_err-queue_step.field-0.0 (sym c.in_err-queue_step.ensures)))

pub returns-3 : goal.returns-3
returns-3 c =
    sym (link_step_is passes_Q c.args.length c.args.so_far _ c.args.link.now _ _ c.link.view_is (sym c.product.ensures ∙ c.in-Ok-at.is)
    (sym c.sum.ensures ∙ c.in-Ok-at-amount.is) c.is_positive.result c.is_positive.ensures
    c.in_ok-inflow_rate.inflow_rate (sym c.in_ok-inflow_rate.ensures) c.is_positive-2.result c.is_positive-2.ensures c.in_ok-outflow_rate.outflow_rate (sym c.in_ok-outflow_rate.ensures)
    c.in_ok-queue_step.field-0 (sym c.in_ok-queue_step.ensures))
