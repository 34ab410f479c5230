use Rattle.nf_phase_laws.proofs.CurveSteps.{GoesOnTo-appended, GoesOnTo-replaced}
use Rattle.nf_phase_laws.proofs.points_go_on.Goals as goal

pub returns : goal.returns
returns c = record { appended = GoesOnTo-appended; replaced = GoesOnTo-replaced }
