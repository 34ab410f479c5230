use Rattle.std.proofs.Common.{ap, sym, ◌∙◌}
use Rattle.nf_app_answers.specs.Answers.{err_text, status_of_stop, text_of_stop}
use Rattle.nf_app_answers.specs.Outcomes.{answer_with}
use Rattle.nf_app_answers.specs.declared.outcome.Computed.{Computed}
use Rattle.nf_app_files.proofs.Statuses.{stop_status, stop_text, took_same, took_text}
use Rattle.nf_app_files.proofs.output.tell.Goals as goal

pub returns-in-TooManyWalks-clause-told : goal.returns-in-TooManyWalks-clause-told
returns-in-TooManyWalks-clause-told g c net = took_same _ _ _ (sym (ap (λ (f : Computed). err_text (answer_with net f)) c.in-TooManyWalks.is))
    (took_text _ _ _ c.write_over_budget.result c.write_over_budget.ensures)

pub returns-in_default-clause-status : goal.returns-in_default-clause-status
returns-in_default-clause-status g c net =
    c.tell_stop.ensures.status ∙ ap status_of_stop c.stop.ensures ∙ stop_status net c.args.found.now c.in_default.not-SolvedForever c.in_default.not-Checked c.in_default.not-TooManyWalks

pub returns-in_default-clause-told : goal.returns-in_default-clause-told
returns-in_default-clause-told g c net =
    took_same _ _ _ (ap text_of_stop c.stop.ensures ∙ stop_text net c.args.found.now c.in_default.not-Checked c.in_default.not-TooManyWalks) c.tell_stop.ensures.told
