use Rattle.nf_frac.proofs.Common.{short}
use Rattle.nf_frac.proofs.Passing.{product_done, product_passed}
use Rattle.nf_frac.proofs.small_scalar.SmallScalar.product.Goals as goal

pub returns-in-Some : goal.returns-in-Some
returns-in-Some c = product_done short c.args.self c.args.right c.in-Some.value c.in-Some.ensures

pub returns-in-None : goal.returns-in-None
returns-in-None c = product_passed short c.args.self c.args.right c.in-None.ensures
