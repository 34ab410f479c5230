use Rattle.nf_model_laws.proofs.Merged.{IsCurve-merged, value-merged}
use Rattle.nf_model_laws.proofs.equal_slopes_merge.Goals as goal

pub returns : goal.returns
returns c = record { curve = IsCurve-merged; values = value-merged }
