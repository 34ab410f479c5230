use Rattle.nf_phase_laws.proofs.CurveSteps.{GoesOn-curves, CurvesStand-after}
use Rattle.nf_phase_laws.proofs.curves_make_flow.Goals as goal

pub returns : goal.returns
returns c = record { flow = GoesOn-curves; stand = CurvesStand-after }
