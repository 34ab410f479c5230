use Rattle.nf_residual.proofs.Common.{err_from_is_err_and, passes_Q}
use Rattle.nf_residual.proofs.Moving.{moves_first, link_within, moves_stop, moves_all, moves_by_parts}
use Rattle.nf_residual.proofs.residual.move_along.Goals as goal

pub loop-step-init : goal.loop-step-init
loop-step-init c = moves_first passes_Q c.args.amount c.args.steps.now c.args.flows.now.items c.requires

pub at-before-requires : goal.at-before-requires
at-before-requires c = link_within passes_Q c.args.amount c.args.steps.now c.args.flows.now.items c.loop-step.flows.items c.loop-step.step-index
    c.step-item.result c.step.inside.link c.step.inside.forward c.loop-step-test.true c.step-item.is c.step.view_is c.loop-step.invariant

pub returns-in_err-after-clause-moved : goal.returns-in_err-after-clause-moved
returns-in_err-after-clause-moved c =
    let p = err_from_is_err_and c.from_residual.result c.from_residual.ensures.1 in
    rw (p.1, p.2) (moves_stop passes_Q c.args.amount c.args.steps.now c.args.flows.now.items c.loop-step.flows.items c.loop-step.step-index
    c.step-item.result c.step.inside.link c.step.inside.forward c.loop-step-test.true c.step-item.is c.step.view_is c.loop-step.invariant
    c.at-before.result c.in_err-after.field-0.0 c.at-before.ensures c.in_err-after.ensures)

pub returns-in_err-after-clause-count : goal.returns-in_err-after-clause-count
returns-in_err-after-clause-count c = c.loop-step.invariant.count

pub put_flow-requires : goal.put_flow-requires
put_flow-requires c = link_within passes_Q c.args.amount c.args.steps.now c.args.flows.now.items c.loop-step.flows.items c.loop-step.step-index
    c.step-item.result c.step.inside.link c.step.inside.forward c.loop-step-test.true c.step-item.is c.step.view_is c.loop-step.invariant

pub loop-step-preserved : goal.loop-step-preserved
loop-step-preserved c = moves_by_parts passes_Q c.args.amount c.args.steps.now c.args.flows.now.items c.loop-step.flows.items c.loop-step.step-index
    c.step-item.result c.step.inside.link c.step.inside.forward c.at-before.result c.in_ok-after.after c.put_flow.new.flows.items
    c.loop-step-test.true c.step-item.is c.step.view_is c.at-before.ensures c.in_ok-after.ensures c.put_flow.ensures c.loop-step.invariant

pub returns-clause-moved : goal.returns-clause-moved
returns-clause-moved c =
    moves_all passes_Q c.args.amount c.args.steps.now c.args.flows.now.items c.loop-step.flows.items c.loop-step.step-index c.loop-step-test.false
    c.loop-step.invariant

pub returns-clause-count : goal.returns-clause-count
returns-clause-count c = c.loop-step.invariant.count
