use Rattle.nf_frac.proofs.Bits.{gcd_positive, gcd_small}
use Rattle.nf_frac.proofs.SmallParts.{gcd_one, gcd_itself}
use Rattle.nf_frac.proofs.short.common_factor.Goals as goal

pub returns-then-b-eq1-clause-value : goal.returns-then-b-eq1-clause-value
returns-then-b-eq1-clause-value c = gcd_one c.args.a c.args.b c.if-b-eq1.true

pub returns-then-a-b-clause-value : goal.returns-then-a-b-clause-value
returns-then-a-b-clause-value c = gcd_itself c.args.a c.args.b c.if-a-b.true

pub returns-else-a-b-clause-positive : goal.returns-else-a-b-clause-positive
returns-else-a-b-clause-positive c = gcd_positive c.args.a c.args.b _ c.gcd_short.ensures

pub returns-else-a-b-clause-small : goal.returns-else-a-b-clause-small
returns-else-a-b-clause-small c = gcd_small c.args.a c.args.b _ c.gcd_short.ensures
