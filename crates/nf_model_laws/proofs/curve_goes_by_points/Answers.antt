use Rattle.nf_model_laws.proofs.Curves.{IsCurve-rises, value-point, value-affine, value-last}
use Rattle.nf_model_laws.proofs.curve_goes_by_points.Goals as goal

pub returns : goal.returns
returns c = record {
  at_point = λ front p rest k. value-point front p rest (IsCurve-rises _ k);
  between = λ front p q rest k. value-affine front p q rest (IsCurve-rises _ k);
  after = λ front p time k h. value-last front p time (IsCurve-rises _ k) h;
}
