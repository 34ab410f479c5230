use Rattle.std.proofs.Common.{rules}
use Rattle.nf_frac.proofs.Common.{le_trans}
use Rattle.std.proofs.lemmas.Int.{ints}
use Rattle.nf_frac.proofs.Bits.{sum_bits_fit}
use Rattle.nf_frac.proofs.whole.added.Goals as goal

pub returns-in-Some : goal.returns-in-Some
returns-in-Some c = search (ints, rules)

pub returns-in_default : goal.returns-in_default
returns-in_default c = search (ints, rules)

pub returns-in_default-2 : goal.returns-in_default-2
returns-in_default-2 c h = c.in_default.ensures {u = tt} (sum_bits_fit c.args.a c.args.b c.ranges.a c.ranges.b (le_trans h c.requires))
