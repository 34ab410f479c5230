use Rattle.nf_frac.proofs.Bits.{gcd_positive, gcd_small}
use Rattle.nf_frac.proofs.SmallParts.{gcd_one}
use Rattle.nf_frac.proofs.whole.gcd_of.Goals as goal

pub returns-then-b-eq1-clause-value : goal.returns-then-b-eq1-clause-value
returns-then-b-eq1-clause-value c = gcd_one c.args.a c.args.b c.if-b-eq1.true

pub returns-then-b-le-WORD-clause-positive : goal.returns-then-b-le-WORD-clause-positive
returns-then-b-le-WORD-clause-positive c = gcd_positive c.args.a c.args.b _ c.gcd_short.ensures

pub returns-then-b-le-WORD-clause-small : goal.returns-then-b-le-WORD-clause-small
returns-then-b-le-WORD-clause-small c = gcd_small c.args.a c.args.b _ c.gcd_short.ensures

pub returns-else-a-le-WORD-clause-positive : goal.returns-else-a-le-WORD-clause-positive
returns-else-a-le-WORD-clause-positive c = gcd_positive c.args.a c.args.b _ c.gcd_long.ensures

pub returns-else-a-le-WORD-clause-small : goal.returns-else-a-le-WORD-clause-small
returns-else-a-le-WORD-clause-small c = gcd_small c.args.a c.args.b _ c.gcd_long.ensures
