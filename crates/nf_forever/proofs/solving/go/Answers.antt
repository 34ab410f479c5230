use Rattle.std.proofs.Common.{◌+◌, suc, add-one, ap, ◌∙◌, arith}
use Rattle.nf_forever.proofs.Common.{passes_Q}
use Rattle.nf_forever.proofs.Going.{gone_nowhere, gone_further, ends_at_phases, ends_never, ends_by_fault}
use Rattle.nf_forever.proofs.solving.go.Goals as goal

pub loop-init : goal.loop-init
loop-init c = gone_nowhere passes_Q c.args.net.now.net c.args.budgets.phases c.args.budgets.patterns c.args.run.now c.requires

pub returns-in-Ok-Some : goal.returns-in-Ok-Some
returns-in-Ok-Some c =
    ends_never passes_Q c.args.net.now.net c.args.budgets.phases c.args.budgets.patterns c.args.run.now c.requires c.loop.counter c.loop.run
    c.loop.invariant c.loop-test.true c.in-Ok-Some.field-0
    c.in-Ok-Some.thin c.in-Ok-Some.field-0-is c.step_to_end.new.self c.in-Ok-Some.ensures.phase c.in-Ok-Some.ensures.stays

pub returns-in-Err : goal.returns-in-Err
returns-in-Err c =
    ends_by_fault passes_Q c.args.net.now.net c.args.budgets.phases c.args.budgets.patterns c.args.run.now c.requires c.loop.counter c.loop.run
    c.loop.invariant c.loop-test.true c.in-Err.fault
    c.in-Err.ensures.cause c.step_to_end.new.self c.in-Err.ensures.kept (c.phases.result + 1) (add-one c.phases.result ∙ ap suc c.phases.ensures) c.in_ok-stop-in-Err.stop
    c.in_ok-stop-in-Err.ensures.cause

pub loop-preserved : goal.loop-preserved
loop-preserved c =
    gone_further passes_Q c.args.net.now.net c.args.budgets.phases c.args.budgets.patterns c.args.run.now c.requires c.loop.counter c.loop.run
    c.loop.invariant c.loop-test.true c.in-Ok-None.field-0
    c.in-Ok-None.field-0-is c.step_to_end.new.self c.in-Ok-None.ensures.state.reaches c.in-Ok-None.ensures.phase

pub returns : goal.returns
returns c =
    ends_at_phases passes_Q c.args.net.now.net c.args.budgets.phases c.args.budgets.patterns c.args.run.now c.requires c.loop.counter c.loop.run
    c.loop.invariant (omega arith) c.phases-2.result c.phases-2.ensures
