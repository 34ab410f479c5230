use Rattle.std.proofs.Common.{[], ◌∷◌, refl, codes}
use Rattle.nf_app_answers.proofs.Common.{digits_of, printed, wrote_next, wrote_failed, run_lines}
use Rattle.nf_app_answers.proofs.gen_text.write_run.Goals as goal

pub returns-in_err-write_counted : goal.returns-in_err-write_counted
returns-in_err-write_counted g c =
    wrote_failed ((codes "phases" ∷ digits_of c.args.phases ∷ []) ∷ []) ((codes "reached" ∷ printed c.args.reached ∷ []) ∷ []) (run_lines c.args.phases c.args.reached)
    c.from_residual.result refl c.from_residual.ensures.0 c.in_err-write_counted.ensures

pub returns : goal.returns
returns g c =
    wrote_next ((codes "phases" ∷ digits_of c.args.phases ∷ []) ∷ []) ((codes "reached" ∷ printed c.args.reached ∷ []) ∷ []) (run_lines c.args.phases c.args.reached) refl
    c.in_ok-write_counted.ensures c.write_number.ensures
