use Rattle.std.proofs.Common.{◌≡◌, ◌++◌, drop, map}
use Rattle.nf_app_answers.proofs.Common.{after_words, step_word}
use Rattle.nf_app_answers.proofs.walks_text.put_steps.Given as goal

abbrev pub invariant-loop-step : goal.invariant-loop-step
invariant-loop-step l =
    l.text.items ++ after_words (map (step_word l.net.link_names) (drop l.step-index l.steps)) ≡ l.initial.text.items ++ after_words
    (map (step_word l.net.link_names) l.steps)
