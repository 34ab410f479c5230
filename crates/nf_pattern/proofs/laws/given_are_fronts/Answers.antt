use Rattle.nf_pattern.proofs.Fronts.{given_are_fronts}
use Rattle.nf_pattern.proofs.laws.given_are_fronts.Goals as goal

pub returns : goal.returns
returns c = given_are_fronts
