use Rattle.nf_thin_laws.proofs.Places.{bounded}
use Rattle.nf_thin_laws.proofs.places_are_bounded.Goals as goal

pub returns : goal.returns
returns c = λ nodes source hops sets unbounded base choices listing place p is states count at. bounded nodes source hops sets unbounded base choices listing is states count place p at
