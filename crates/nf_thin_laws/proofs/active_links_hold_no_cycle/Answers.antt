use Rattle.nf_thin_laws.proofs.ActiveLinks.{AreSets-sets_at, HoldNoCycle-sets_at, NoneEntersSource-acyclic}
use Rattle.nf_thin_laws.proofs.active_links_hold_no_cycle.Goals as goal

pub returns : goal.returns
returns c = record { sets = AreSets-sets_at; cycles = HoldNoCycle-sets_at; source = NoneEntersSource-acyclic }
