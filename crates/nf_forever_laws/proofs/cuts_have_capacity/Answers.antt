use Rattle.nf_forever_laws.proofs.Cuts.{cut_capacity-positive}
use Rattle.nf_forever_laws.proofs.cuts_have_capacity.Goals as goal

pub returns : goal.returns
returns c = λ net cut good is. cut_capacity-positive net cut is good
