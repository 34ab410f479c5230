use Rattle.nf_model_laws.proofs.Curves.{NeverFalls-value}
use Rattle.nf_model_laws.proofs.rising_points_rise.Goals as goal

pub returns : goal.returns
returns c = NeverFalls-value
