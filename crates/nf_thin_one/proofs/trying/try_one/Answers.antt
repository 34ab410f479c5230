use Rattle.std.proofs.Common.{◌∙◌, ap, Ok, option_map}
use Rattle.nf_thin_one.proofs.Common.{err_from_is_err_and, passes_Q}
use Rattle.nf_thin_one.proofs.Outcomes.{tried_err, tried_none, values_count, tried_values}
use Rattle.nf_thin_one.proofs.trying.try_one.Goals as goal

pub returns-in_err-values : goal.returns-in_err-values
returns-in_err-values c =
    let q = err_from_is_err_and c.from_residual.result c.from_residual.ensures.1 in
    rw (q.1, q.2) (tried_err passes_Q c.args.net.now.net c.args.sets.now c.args.rate c.args.pattern.now c.requires c.in_err-values.field-0.0 c.in_err-values.ensures)

pub judge_values-requires-clause-values : goal.judge_values-requires-clause-values
judge_values-requires-clause-values c = values_count passes_Q c.args.net.now.net c.args.sets.now c.args.rate c.args.pattern.now c.requires
    c.in-Some.values.items (c.in_ok-values.ensures ∙ ap (λ o. Ok (option_map (λ values. values.items) o)) c.in-Some.is)

pub returns-in-Some : goal.returns-in-Some
returns-in-Some c = tried_values passes_Q c.args.net.now.net c.args.sets.now c.args.rate c.args.pattern.now c.requires
    c.in-Some.values.items (c.in_ok-values.ensures ∙ ap (λ o. Ok (option_map (λ values. values.items) o)) c.in-Some.is) c.judge_values.result c.judge_values.ensures

pub returns-in-None : goal.returns-in-None
returns-in-None c = tried_none passes_Q c.args.net.now.net c.args.sets.now c.args.rate c.args.pattern.now c.requires
    (c.in_ok-values.ensures ∙ ap (λ o. Ok (option_map (λ values. values.items) o)) c.in-None.is)
