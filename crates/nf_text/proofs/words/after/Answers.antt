use Rattle.std.proofs.Common.{sym, ◌∙◌, ap, ◌+◌}
use Rattle.nf_text.proofs.Common.{text_of, between}
use Rattle.nf_text.proofs.Plain.{begins, begins_not, text_of-length}
use Rattle.nf_text.proofs.words.after.Goals as goal

pub returns-then-has_word-clause-goes_on : goal.returns-then-has_word-clause-goes_on
returns-then-has_word-clause-goes_on c =
    begins c.args.text.now c.args.at c.args.end (c.args.at + c.args.word.len) (text_of c.args.text.now c.args.word)
    (ap (λ n. c.args.at + n) (sym (text_of-length c.args.text.now c.args.word c.requires.word))) (sym c.has_word.ensures.same ∙ c.if-has_word.true)

pub returns-else-has_word-clause-goes_on : goal.returns-else-has_word-clause-goes_on
returns-else-has_word-clause-goes_on c =
    begins_not (between c.args.text.now c.args.at c.args.end) (text_of c.args.text.now c.args.word) (sym c.has_word.ensures.same ∙ c.if-has_word.false)
