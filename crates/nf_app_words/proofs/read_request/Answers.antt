use Rattle.std.proofs.Common.{◌∙◌, ap, option_map, option_and_then}
use Rattle.nf_app_words.proofs.Common.{texts, request_in, rows_in}
use Rattle.nf_app_words.specs.Requests.{request_of}
use Rattle.nf_app_words.proofs.Asked.{can_be}
use Rattle.nf_app_words.proofs.read_request.Goals as goal

pub returns-in-Some-clause-value : goal.returns-in-Some-clause-value
unfolding request_of
returns-in-Some-clause-value c = ap (option_and_then request_in) (c.in_ok-matches.ensures ∙ ap (option_map rows_in) c.in-Some.is) ∙ c.request_of.ensures

pub returns-in-Some-clause-can_be : goal.returns-in-Some-clause-can_be
unfolding request_of
returns-in-Some-clause-can_be c =
    can_be (texts c.args.words.now) c.request_of.result
    (ap (option_and_then request_in) (c.in_ok-matches.ensures ∙ ap (option_map rows_in) c.in-Some.is) ∙ c.request_of.ensures)

pub returns-in-None-clause-value : goal.returns-in-None-clause-value
unfolding request_of
returns-in-None-clause-value c = ap (option_and_then request_in) (c.in_ok-matches.ensures ∙ ap (option_map rows_in) c.in-None.is)
