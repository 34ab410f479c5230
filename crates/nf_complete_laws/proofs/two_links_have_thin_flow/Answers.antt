use Rattle.nf_complete_laws.proofs.Supplied.{IsOversupply-some}
use Rattle.nf_complete_laws.proofs.Exists.{thin_exists}
use Rattle.nf_complete_laws.proofs.TwoLinks.{two_links-thin}
use Rattle.nf_complete_laws.proofs.two_links_have_thin_flow.Goals as goal

pub returns : goal.returns
returns c = two_links-thin (thin_exists IsOversupply-some)
