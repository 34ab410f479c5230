use Rattle.std.proofs.Common.{arith, sym}
use Rattle.nf_text.proofs.Plain.{same_place}
use Rattle.nf_text.proofs.words.has_word.Goals as goal

pub returns-then-word-at-clause-same : goal.returns-then-word-at-clause-same
returns-then-word-at-clause-same c =
    sym (same_place c.args.text.now c.args.at c.args.end c.args.word c.requires.word c.if-word-at.true (omega (arith, c.if-end-at.false)))
