use Rattle.nf_model_laws.proofs.Affine.{IsAffine-plus, IsAffine-less, IsAffine-composed, IsAffine-part}
use Rattle.nf_model_laws.proofs.affine_functions_combine.Goals as goal

pub returns : goal.returns
returns c = record { sum = IsAffine-plus; difference = IsAffine-less; composed = IsAffine-composed; part = IsAffine-part }
