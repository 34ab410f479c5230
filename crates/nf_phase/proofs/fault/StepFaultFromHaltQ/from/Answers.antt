use Rattle.std.proofs.Common.{refl}
use Rattle.nf_phase.proofs.fault.StepFaultFromHaltQ.from.Goals as goal

pub returns-in-Passed : goal.returns-in-Passed
returns-in-Passed c = rw c.in-Passed.is refl
