use Rattle.nf_curve_laws.proofs.Values.{checked_cut-exact, checked_cut-values}
use Rattle.nf_curve_laws.proofs.cut_is.Goals as goal

pub returns : goal.returns
returns c = λ passes points last cut c h e. (checked_cut-exact passes points last cut c h e, checked_cut-values passes points last cut c h e)
