use Rattle.nf_frac_def.proofs.Readings.{checked_is, outcome-bind}
use Rattle.nf_frac_def.proofs.readings_agree.Goals as goal

pub returns : goal.returns
returns c = record { one = checked_is; next = λ passes w f. outcome-bind passes w f }
