use Rattle.std.proofs.Common.{map}
use Rattle.nf_load.proofs.Common.{err_from_is_err_and, Load, passes_Q, at_part, checked_short, queue_point, exit_point, stops_on, in_short_form, moments_of}
use Rattle.nf_load.proofs.LoadingSteps.{queue_stops, outflow_stops, exit_stops, comes_to}
use Rattle.nf_load.proofs.Pacing.{queue_slopes}
use Rattle.nf_load.proofs.loading.short_curves.Goals as goal

pub queue_curve-requires-clause-curve : goal.queue_curve-requires-clause-curve
queue_curve-requires-clause-curve c = c.requires.curves.queue

pub queue_curve-requires-clause-slopes : goal.queue_curve-requires-clause-slopes
queue_curve-requires-clause-slopes c = queue_slopes c.requires.paces.0 (moments_of c.args.all.now) c.args.paces.now c.requires.paces.1

pub outflow_curve-requires : goal.outflow_curve-requires
outflow_curve-requires c = c.requires.outflow

pub exit_curve-requires-clause-curve : goal.exit_curve-requires-clause-curve
exit_curve-requires-clause-curve c = c.requires.curves.exit

pub exit_curve-requires-clause-leaving : goal.exit_curve-requires-clause-leaving
exit_curve-requires-clause-leaving c = c.requires.leaving

pub returns-in_err-queue : goal.returns-in_err-queue
returns-in_err-queue c =
    let p = err_from_is_err_and c.from_residual.result c.from_residual.ensures.1 in
    rw (p.1, p.2) (stops_on c.in_err-queue.field-0.0 (at_part Load (checked_short passes_Q (map queue_point (moments_of c.args.all.now))))
    (at_part Load (in_short_form passes_Q (moments_of c.args.all.now) c.args.all.now c.args.whole_outflow.now.curve.points))
    (queue_stops passes_Q Load (moments_of c.args.all.now) c.args.all.now c.args.whole_outflow.now.curve.points) c.in_err-queue.ensures)

pub returns-in_err-outflow : goal.returns-in_err-outflow
returns-in_err-outflow c =
    let p = err_from_is_err_and c.from_residual-in_err-outflow.result c.from_residual-in_err-outflow.ensures.1 in
    rw (p.1, p.2) (stops_on c.in_err-outflow.field-0.0 (at_part Load (checked_short passes_Q c.args.whole_outflow.now.curve.points))
    (at_part Load (in_short_form passes_Q (moments_of c.args.all.now) c.args.all.now c.args.whole_outflow.now.curve.points))
    (outflow_stops passes_Q Load (moments_of c.args.all.now) c.args.all.now c.args.whole_outflow.now.curve.points c.in_ok-queue.queue.points
    c.in_ok-queue.ensures) c.in_err-outflow.ensures)

pub returns-in_err-exit : goal.returns-in_err-exit
returns-in_err-exit c =
    let p = err_from_is_err_and c.from_residual-in_err-exit.result c.from_residual-in_err-exit.ensures.1 in
    rw (p.1, p.2) (stops_on c.in_err-exit.field-0.0 (at_part Load (checked_short passes_Q (map exit_point c.args.all.now)))
    (at_part Load (in_short_form passes_Q (moments_of c.args.all.now) c.args.all.now c.args.whole_outflow.now.curve.points))
    (exit_stops passes_Q Load (moments_of c.args.all.now) c.args.all.now c.args.whole_outflow.now.curve.points c.in_ok-queue.queue.points c.in_ok-queue.ensures
    c.in_ok-outflow.outflow.points c.in_ok-outflow.ensures) c.in_err-exit.ensures)

pub returns : goal.returns
returns c = comes_to passes_Q Load (moments_of c.args.all.now) c.args.all.now c.args.whole_outflow.now.curve.points c.in_ok-queue.queue.points c.in_ok-queue.ensures
    c.in_ok-outflow.outflow.points c.in_ok-outflow.ensures c.in_ok-exit.exit.points c.in_ok-exit.ensures
