use Rattle.std.proofs.Common.{rules}
use Rattle.nf_thin_guess.proofs.repairs.fits.Goals as goal

pub returns-in-Full : goal.returns-in-Full
returns-in-Full c = search rules
