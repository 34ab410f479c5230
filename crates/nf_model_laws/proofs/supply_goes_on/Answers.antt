use Rattle.nf_model_laws.proofs.Supply.{supplied-begins, supplied-goes_on, supplied-rises, rate_from-not_negative}
use Rattle.nf_model_laws.proofs.supply_goes_on.Goals as goal

pub returns : goal.returns
returns c = record { begins = supplied-begins; step = supplied-goes_on; rises = supplied-rises; rate = rate_from-not_negative }
