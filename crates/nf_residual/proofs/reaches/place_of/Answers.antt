use Rattle.nf_residual.proofs.Reading.{place_read}
use Rattle.nf_residual.proofs.reaches.place_of.Goals as goal

pub returns : goal.returns
returns c = place_read c.args.places.now c.args.node
