use Rattle.std.proofs.Common.{sym}
use Rattle.nf_frac.proofs.Halving.{odd_rest, power_rest}
use Rattle.nf_frac.proofs.whole.odd_part.Goals as goal

pub returns-clause-power : goal.returns-clause-power
returns-clause-power c = sym (power_rest c.args.n c.requires c.ranges.n.fits)

pub returns-clause-odd : goal.returns-clause-odd
returns-clause-odd c = odd_rest c.args.n c.requires c.ranges.n.fits
