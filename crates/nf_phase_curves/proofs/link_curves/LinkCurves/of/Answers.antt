use Rattle.std.proofs.Common.{sym, ap, ◌∙◌, Ok}
use Rattle.nf_phase_curves.proofs.Common.{err_from_is_err_and, Curve, passes_Q, at_part, seen_trace, LinkCurves, growing, after_err, after_ok, stops_on}
use Rattle.nf_phase_curves.proofs.Common.{of_link}
use Rattle.nf_phase_curves.proofs.link_curves.LinkCurves.of.Goals as goal

pub returns-in_err-queue : goal.returns-in_err-queue
returns-in_err-queue c =
    let p = err_from_is_err_and c.from_residual-in_err-queue.result c.from_residual-in_err-queue.ensures.1 in
    rw (p.1, p.2) (stops_on c.in_err-queue.field-0.0 (at_part Curve (growing passes_Q c.args.queue.now.points))
    (at_part Curve (of_link passes_Q (seen_trace c.args.inflow.now) (seen_trace c.args.outflow.now) c.args.queue.now.points))
    (λ at e. after_err Curve (growing passes_Q c.args.queue.now.points) _ at e) c.in_err-queue.ensures)

pub returns : goal.returns
returns c =
    after_ok Curve (growing passes_Q c.args.queue.now.points) _ c.in_ok-queue.queue.grown c.in_ok-queue.ensures
    ∙ ap (λ (l : LinkCurves). Ok l) (λ i. record { inflow = sym c.in_ok-inflow.ensures i; outflow = sym c.in_ok-outflow.ensures i; queue = c.in_ok-queue.queue.grown })
