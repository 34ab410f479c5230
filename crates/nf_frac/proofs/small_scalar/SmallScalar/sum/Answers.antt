use Rattle.nf_frac.proofs.Common.{short}
use Rattle.nf_frac.proofs.Passing.{sum_done, sum_passed}
use Rattle.nf_frac.proofs.small_scalar.SmallScalar.sum.Goals as goal

pub returns-in-Some : goal.returns-in-Some
returns-in-Some c = sum_done short c.args.self c.args.right c.in-Some.value c.in-Some.ensures

pub returns-in-None : goal.returns-in-None
returns-in-None c = sum_passed short c.args.self c.args.right c.in-None.ensures
