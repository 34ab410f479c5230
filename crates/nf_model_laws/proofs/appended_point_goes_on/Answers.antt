use Rattle.nf_model_laws.proofs.Curves.{IsCurve-append, value-append_before, value-append_affine}
use Rattle.nf_model_laws.proofs.appended_point_goes_on.Goals as goal

pub returns : goal.returns
returns c = record { curve = IsCurve-append; before = value-append_before; between = value-append_affine }
