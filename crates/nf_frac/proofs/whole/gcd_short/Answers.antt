use Rattle.nf_frac.proofs.Halving.{gcd_right_zero, gcd_divides}
use Rattle.nf_frac.proofs.SmallParts.{gcd_step}
use Rattle.nf_frac.proofs.whole.gcd_short.Goals as goal

pub returns-then-b-eq0 : goal.returns-then-b-eq0
returns-then-b-eq0 c = gcd_right_zero c.args.a c.args.b c.if-b-eq0.true

pub returns-then-rest-eq0 : goal.returns-then-rest-eq0
returns-then-rest-eq0 c = gcd_divides c.args.a c.args.b c.if-rest-eq0.true

pub returns-else-rest-eq0 : goal.returns-else-rest-eq0
returns-else-rest-eq0 c = gcd_step c.args.a c.args.b _ c.gcd_halving.ensures
