use Rattle.nf_thin_laws.proofs.PlacesBelow.{bounded_below}
use Rattle.nf_thin_laws.proofs.places_are_bounded_below.Goals as goal

pub returns : goal.returns
returns c =
    λ nodes source hops sets unbounded base choices listing place p is all up count at. bounded_below nodes source hops sets unbounded base choices listing
    is all up count place p at
