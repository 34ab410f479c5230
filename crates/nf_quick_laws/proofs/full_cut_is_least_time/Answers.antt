use Rattle.nf_quick_laws.proofs.Scaled.{IsQuickest-full}
use Rattle.nf_quick_laws.proofs.full_cut_is_least_time.Goals as goal

pub returns : goal.returns
returns c = λ net amount time cut entered left good some h d k full. IsQuickest-full net amount time cut good some k full entered left h d
