use Rattle.nf_unique_laws.proofs.Common.{supply, ≤ℚ_refl}
use Rattle.nf_unique_laws.proofs.Feasible.{quickest-le}
use Rattle.nf_unique_laws.proofs.equilibrium_is_no_quicker.Goals as goal

pub returns : goal.returns
returns c = λ net flow departure time good is w q. quickest-le net flow good is (supply net departure) departure time w (≤ℚ_refl (supply net departure)) q
