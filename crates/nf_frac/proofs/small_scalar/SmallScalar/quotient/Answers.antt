use Rattle.nf_frac.proofs.Common.{short}
use Rattle.nf_frac.proofs.Passing.{quotient_done, quotient_passed}
use Rattle.nf_frac.proofs.small_scalar.SmallScalar.quotient.Goals as goal

pub returns-in-Some : goal.returns-in-Some
returns-in-Some c = quotient_done short c.args.self c.args.right c.in-Some.value (rw c.inverted.ensures at c.in-Some.ensures)

pub returns-in-None : goal.returns-in-None
returns-in-None c = quotient_passed short c.args.self c.args.right (rw c.inverted.ensures at c.in-None.ensures)
