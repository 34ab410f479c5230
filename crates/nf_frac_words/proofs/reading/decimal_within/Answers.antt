use Rattle.nf_frac_words.proofs.Bounds.{first_passes, both_fields}
use Rattle.nf_frac_words.proofs.reading.decimal_within.Goals as goal

pub returns-in_err-whole : goal.returns-in_err-whole
returns-in_err-whole c = rw c.from_residual.ensures (first_passes c.args.bound c.args.left.now c.args.right.now c.in_err-whole.ensures)

pub returns : goal.returns
returns c = both_fields c.args.bound c.args.left.now c.args.right.now c.in_ok-whole.whole c.value_within-2.result c.in_ok-whole.ensures.1 c.value_within-2.ensures
