use Rattle.nf_model_laws.proofs.Affine.{IsAffine-same, IsAffine-nn}
use Rattle.nf_model_laws.proofs.ends_decide_affine.Goals as goal

pub returns : goal.returns
returns c = record { same = IsAffine-same; not_negative = IsAffine-nn }
