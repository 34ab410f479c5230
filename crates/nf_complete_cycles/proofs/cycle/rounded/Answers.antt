use Rattle.std.proofs.Common.{ℕ, List, Bool, ap, sym, ◌∙◌}
use Rattle.nf_complete_cycles.proofs.Common.{drop_of_length-le, IfOk-from_err, round_onto}
use Rattle.nf_complete_cycles.proofs.Rounding.{round_more}
use Rattle.nf_complete_cycles.proofs.cycle.rounded.Goals as goal

pub loop-step-init : goal.loop-step-init
loop-step-init c = ap (λ (done : List (ℕ × Bool)). round_onto done c.args.steps.now) c.new-all.ensures.items

pub loop-step-preserved : goal.loop-step-preserved
loop-step-preserved c =
    round_more c.args.steps.now c.loop-step.all.items c.insert.new.self.items c.loop-step.step-index c.step-item.result c.turned.result
    c.loop-step-test.true c.step-item.is c.turned.ensures
    c.in_ok-insert.ensures.items c.loop-step.invariant

pub returns-in_err-insert : goal.returns-in_err-insert
returns-in_err-insert c = IfOk-from_err c.from_residual.result _ c.from_residual.ensures.0

pub returns : goal.returns
returns c = ap (round_onto c.loop-step.all.items) (sym (drop_of_length-le c.args.steps.now c.loop-step-test.false)) ∙ c.loop-step.invariant
