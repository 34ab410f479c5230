use Rattle.std.proofs.Common.{◌≡◌, ◌+◌, suc, add-one, ap, ◌∙◌, arith}
use Rattle.nf_phase.proofs.Common.{passes_Q, Standing, bounds_of}
use Rattle.nf_phase.proofs.Going.{gone_nowhere, gone_further, ends_at_horizon, ends_after_all, ends_by_fault}
use Rattle.nf_phase.proofs.run.Run.go.Goals as goal

pub loop-init : goal.loop-init
loop-init c =
    gone_nowhere passes_Q c.args.net.now.net (bounds_of c.args.horizon c.args.budgets) c.args.self.now c.requires.reaches c.requires.fresh c.requires.horizon

pub returns-then-is_at : goal.returns-then-is_at
returns-then-is_at c =
    ends_at_horizon passes_Q c.args.net.now.net (bounds_of c.args.horizon c.args.budgets) c.args.self.now c.loop.counter c.loop.self c.loop.invariant c.if-is_at.ensures

pub step-requires-clause-below : goal.step-requires-clause-below
step-requires-clause-below c =
    c.if-is_at.ensures

pub returns-in-Err : goal.returns-in-Err
returns-in-Err c =
    ends_by_fault passes_Q c.args.net.now.net (bounds_of c.args.horizon c.args.budgets) c.args.self.now c.loop.counter c.loop.self c.loop.invariant
    c.loop-test.true c.in-Err.fault c.in-Err.ensures.cause c.step.new.self c.in-Err.ensures.kept (c.self.inside.made + 1)
    (add-one c.self.inside.made ∙ ap (λ (s : Standing). suc s.made) c.self.view_is) c.in_ok-stop_by.field-0 c.in_ok-stop_by.ensures.cause

pub loop-preserved : goal.loop-preserved
loop-preserved c =
    gone_further passes_Q c.args.net.now.net (bounds_of c.args.horizon c.args.budgets) c.args.self.now c.loop.counter c.loop.self c.loop.invariant
    c.requires.named.network c.loop-test.true c.step.new.self c.in_default.ensures.goes

pub returns : goal.returns
returns c =
    ends_after_all passes_Q c.args.net.now.net (bounds_of c.args.horizon c.args.budgets) c.args.self.now c.loop.counter c.loop.self c.loop.invariant
    c.stop_after_all.result c.stop_after_all.ensures (omega arith)

pub overflow_add-self-inside : goal.overflow_add-self-inside
overflow_add-self-inside c =
    let same : c.self.inside.made ≡ c.loop.counter = ap (λ (s : Standing). s.made) (c.self.view_is ∙ c.in-Err.ensures.kept) ∙ c.loop.invariant.made in
    let test = c.loop-test.true in
    omega arith
