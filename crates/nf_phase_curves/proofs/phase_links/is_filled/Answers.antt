use Rattle.std.proofs.Common.{rules}
use Rattle.nf_phase_curves.proofs.phase_links.is_filled.Goals as goal

pub returns-in-Some-Full : goal.returns-in-Some-Full
returns-in-Some-Full c = search rules
