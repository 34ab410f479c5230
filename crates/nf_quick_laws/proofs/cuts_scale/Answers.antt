use Rattle.nf_quick_laws.proofs.Scaled.{IsCut-scaled, cut_value-scaled}
use Rattle.nf_quick_laws.proofs.cuts_scale.Goals as goal

pub returns : goal.returns
returns c = record {
  is_cut = λ net time factor cut good n m k. IsCut-scaled net time factor cut good n m k;
  value = λ net time factor cut good n m k. cut_value-scaled net factor cut good n m;
}
