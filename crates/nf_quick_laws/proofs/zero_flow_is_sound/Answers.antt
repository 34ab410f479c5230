use Rattle.nf_quick_laws.proofs.Start.{IsSound-zeros}
use Rattle.nf_quick_laws.proofs.zero_flow_is_sound.Goals as goal

pub returns : goal.returns
returns c = λ net good. IsSound-zeros net good
