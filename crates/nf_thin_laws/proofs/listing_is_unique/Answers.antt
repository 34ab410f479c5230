use Rattle.nf_thin_laws.proofs.Listings.{one_listing}
use Rattle.nf_thin_laws.proofs.listing_is_unique.Goals as goal

pub returns : goal.returns
returns c = one_listing
