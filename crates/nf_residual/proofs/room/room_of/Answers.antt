use Rattle.std.proofs.Common.{◌<◌, length, None}
use Rattle.nf_residual.proofs.Common.{Step, err_from_is_err_and, passes_Q, room_after}
use Rattle.nf_residual.proofs.Folding.{all_at, fold_stops, fold_more}
use Rattle.nf_residual.proofs.room.room_of.Goals as goal

pub returns-in_err-least : goal.returns-in_err-least
returns-in_err-least c =
    let p = err_from_is_err_and c.from_residual.result c.from_residual.ensures.1 in
    rw (p.1, p.2) (fold_stops (room_after passes_Q c.args.net.now.net c.args.flows.now) c.args.steps.now None c.loop-step.least c.loop-step.step-index c.loop-step.invariant
    c.step-item.result c.loop-step-test.true c.step-item.is c.in_err-least.field-0.0 c.in_err-least.ensures)

pub loop-step-preserved : goal.loop-step-preserved
loop-step-preserved c = fold_more (room_after passes_Q c.args.net.now.net c.args.flows.now) c.args.steps.now None c.loop-step.least c.loop-step.step-index c.loop-step.invariant
    c.step-item.result c.loop-step-test.true c.step-item.is c.in_ok-least.least c.in_ok-least.ensures

pub room_after-requires-clause-step : goal.room_after-requires-clause-step
room_after-requires-clause-step c =
    all_at (λ (step : Step). step.link < length c.args.net.now.net.links) c.args.steps.now c.loop-step.step-index c.step-item.result c.requires.steps c.loop-step-test.true c.step-item.is
