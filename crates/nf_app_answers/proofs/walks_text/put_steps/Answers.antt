use Rattle.std.proofs.Common.{◌≤◌, List, ℕ, ◌∷◌, ◌++◌, length, refl, ap, ◌∙◌, append-nil, arith}
use Rattle.nf_app_answers.proofs.Common.{slice_get_read, IfOk-from_err, step_word}
use Rattle.nf_app_answers.proofs.QuickLines.{word_more, word_ends}
use Rattle.nf_app_answers.proofs.walks_text.put_steps.Goals as goal

pub loop-step-init : goal.loop-step-init
loop-step-init c = refl

pub returns-in_err-put_step : goal.returns-in_err-put_step
returns-in_err-put_step c = IfOk-from_err c.from_residual.result _ c.from_residual.ensures.0

pub loop-step-preserved : goal.loop-step-preserved
loop-step-preserved c =
    word_more (step_word c.args.net.now.link_names) c.args.steps.now c.loop-step.step-index c.step-item.result c.loop-step.text.items _ _
    (slice_get_read c.args.steps.now (length c.args.steps.now) c.loop-step.step-index c.step-item.result refl c.loop-step-test.true c.step-item.is)
    c.loop-step.invariant (c.in_ok-put_step.ensures ∙ ap (λ (l : List ℕ). c.loop-step.text.items ++ l) (append-nil (32 ∷ _)))

pub returns : goal.returns
returns c =
    let end : length c.args.steps.now ≤ c.loop-step.step-index = omega arith in
    word_ends (step_word c.args.net.now.link_names) c.args.steps.now c.loop-step.step-index c.loop-step.text.items _ end c.loop-step.invariant
