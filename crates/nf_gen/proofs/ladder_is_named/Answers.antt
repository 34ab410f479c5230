use Rattle.nf_gen.proofs.LadderNamed.{is_ladder}
use Rattle.nf_gen.proofs.ladder_is_named.Goals as goal

pub returns : goal.returns
returns c = is_ladder
