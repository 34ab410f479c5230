use Rattle.nf_pattern.proofs.Deciding.{has_listing}
use Rattle.nf_pattern.proofs.laws.questions_have_listings.Goals as goal

pub returns : goal.returns
returns c = has_listing
