use Rattle.std.proofs.Common.{◌∙◌, ap, refl, sym, option_and_then}
use Rattle.nf_app_words.proofs.Common.{count_between}
use Rattle.nf_app_words.proofs.numbers.count_of.Goals as goal

pub returns-in_err-word-clause-value : goal.returns-in_err-word-clause-value
returns-in_err-word-clause-value c = rw (c.from_residual.ensures, sym c.in_err-word.ensures) refl

pub returns-in_err-word-clause-most : goal.returns-in_err-word-clause-most
returns-in_err-word-clause-most c = rw c.from_residual.ensures tt

pub returns-clause-value : goal.returns-clause-value
returns-clause-value c = c.read_count.ensures.value ∙ ap (option_and_then (count_between c.args.least c.args.most)) c.in_ok-word.ensures

pub returns-clause-most : goal.returns-clause-most
returns-clause-most c = c.read_count.ensures.most
