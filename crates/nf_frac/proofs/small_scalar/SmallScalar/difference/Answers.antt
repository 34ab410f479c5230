use Rattle.nf_frac.proofs.Common.{short}
use Rattle.nf_frac.proofs.Passing.{difference_done, difference_passed}
use Rattle.nf_frac.proofs.small_scalar.SmallScalar.difference.Goals as goal

pub returns-in-Some : goal.returns-in-Some
returns-in-Some c = difference_done short c.args.self c.args.right c.in-Some.value (rw c.negated.ensures.value at c.in-Some.ensures)

pub returns-in-None : goal.returns-in-None
returns-in-None c = difference_passed short c.args.self c.args.right (rw c.negated.ensures.value at c.in-None.ensures)
