use Rattle.std.proofs.Common.{[], ◌∷◌, refl, codes}
use Rattle.nf_app_answers.proofs.Common.{option_copied, printed, cause_words, wrote_next, wrote_failed, run_end_lines}
use Rattle.nf_app_answers.proofs.gen_text.write_end.Goals as goal

pub returns-in_err-write_cause : goal.returns-in_err-write_cause
returns-in_err-write_cause g c =
    wrote_failed ((codes "cause" ∷ cause_words (option_copied c.args.stop)) ∷ []) ((codes "arrival" ∷ printed c.args.arrival ∷ []) ∷ []) (run_end_lines (option_copied c.args.stop) c.args.arrival)
    c.from_residual.result refl c.from_residual.ensures.0 c.in_err-write_cause.ensures

pub returns : goal.returns
returns g c =
    wrote_next ((codes "cause" ∷ cause_words (option_copied c.args.stop)) ∷ []) ((codes "arrival" ∷ printed c.args.arrival ∷ []) ∷ []) (run_end_lines (option_copied c.args.stop) c.args.arrival) refl
    c.in_ok-write_cause.ensures c.write_number.ensures
