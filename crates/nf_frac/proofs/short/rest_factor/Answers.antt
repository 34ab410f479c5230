use Rattle.nf_frac.proofs.Bits.{gcd_positive, gcd_small}
use Rattle.nf_frac.proofs.SmallParts.{gcd_one, gcd_step}
use Rattle.nf_frac.proofs.short.rest_factor.Goals as goal

pub returns-then-b-eq1-clause-value : goal.returns-then-b-eq1-clause-value
returns-then-b-eq1-clause-value c = gcd_one c.args.a c.args.b c.if-b-eq1.true

pub returns-then-a-clause-positive : goal.returns-then-a-clause-positive
returns-then-a-clause-positive c = gcd_positive c.args.a c.args.b _ c.gcd_short.ensures c.requires

pub returns-then-a-clause-small : goal.returns-then-a-clause-small
returns-then-a-clause-small c = gcd_small c.args.a c.args.b _ c.gcd_short.ensures c.requires

pub returns-else-a-clause-value : goal.returns-else-a-clause-value
returns-else-a-clause-value c = gcd_step c.args.a c.args.b _ c.gcd_short-else-a.ensures

pub returns-else-a-clause-positive : goal.returns-else-a-clause-positive
returns-else-a-clause-positive c = gcd_positive c.args.a c.args.b _ (gcd_step c.args.a c.args.b _ c.gcd_short-else-a.ensures) c.requires

pub returns-else-a-clause-small : goal.returns-else-a-clause-small
returns-else-a-clause-small c = gcd_small c.args.a c.args.b _ (gcd_step c.args.a c.args.b _ c.gcd_short-else-a.ensures) c.requires
