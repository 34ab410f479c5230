use Rattle.nf_phase_laws.proofs.DescriptionCurves.{DescriptionGoesOn-curves, DescriptionStands-after}
use Rattle.nf_phase_laws.proofs.curves_make_description.Goals as goal

pub returns : goal.returns
returns c = record { description = DescriptionGoesOn-curves; stands = DescriptionStands-after }
