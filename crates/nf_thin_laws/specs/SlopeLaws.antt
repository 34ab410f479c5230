-- Theorems on the slopes of thin flows, and on their phases.
use Rattle.std.specs.Prelude.{◌≡◌, List, length}
use Rattle.nf_rational.specs.Rational.{ℚ}
use Rattle.nf_model.specs.Network.{Network, IsNetwork}
use Rattle.nf_rational.specs.Operations.{0ℚ, ◌-ℚ◌}
use Rattle.nf_model.specs.ThinFlow.{Sets, surplus, IsThinFlow}
use Rattle.nf_model.specs.Phases.{IsPhase, IsPhaseSequence}
use Rattle.nf_thin_laws.specs.ActiveLinks.{HoldNoCycle}

-- If the active links hold no cycle, all thin flows for these sets and one rate have the same slopes.
abbrev pub SlopesAreUnique : Type 0
SlopesAreUnique = (net : Network) (sets : Sets) (rate : ℚ) (flows slopes other_flows other_slopes : List ℚ) → IsNetwork net
    → HoldNoCycle net sets
    → IsThinFlow net sets rate flows slopes → IsThinFlow net sets rate other_flows other_slopes → slopes ≡ other_slopes

-- From a time with its labels, a phase leads to only one later time with its labels. Phase sequences of a network to one horizon are equal
-- if they are equally long.
pub record PhaseSequencesAgree : Type 0 where
  pub phase : (net : Network) (horizon : ℚ) (old new other : ℚ × List ℚ) → IsNetwork net → IsPhase net horizon old new
      → IsPhase net horizon old other → new ≡ other
  pub sequence : (net : Network) (horizon : ℚ) (phases others : List (ℚ × List ℚ)) → IsNetwork net → IsPhaseSequence net horizon phases
      → IsPhaseSequence net horizon others → length phases ≡ length others → phases ≡ others

-- The flow that a thin flow sends out of the source enters the sink.
abbrev pub ThinFlowComesToSink : Type 0
ThinFlowComesToSink = (net : Network) (sets : Sets) (rate : ℚ) (flows slopes : List ℚ) → IsNetwork net
    → IsThinFlow net sets rate flows slopes
    → surplus net flows net.sink ≡ 0ℚ -ℚ rate
