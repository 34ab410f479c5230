use Rattle.std.proofs.Common.{arith}
use Rattle.nf_text.proofs.Plain.{space_there}
use Rattle.nf_text.proofs.words.after_space.Goals as goal

pub returns-clause-goes_on : goal.returns-clause-goes_on
returns-clause-goes_on c = space_there c.args.text.now c.args.at c.args.end (omega (arith, c.requires.ordered, c.if-at-end.false)) c.requires.within c.if-text-at-ne32.false
