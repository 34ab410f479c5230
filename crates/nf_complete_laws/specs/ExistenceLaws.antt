-- The existence of thin flows.
use Rattle.std.specs.Prelude.{List}
use Rattle.nf_rational.specs.Rational.{ℚ}
use Rattle.nf_rational.specs.Operations.{0ℚ}
use Rattle.nf_rational.specs.Order.{◌≤ℚ◌}
use Rattle.nf_model.specs.Network.{Network, IsNetwork}
use Rattle.nf_model.specs.ThinFlow.{Sets, IsThinFlow}
use Rattle.nf_thin_laws.specs.ActiveLinks.{AreSets, HoldNoCycle, EachIsEntered}
use Rattle.nf_complete_laws.specs.Oversupply.{ResetsAreBounded}

-- There is a thin flow for each rate that is not negative, under three conditions. The active links hold no cycle, they lead to each node
-- except the source, and no unbounded link is resetting.
abbrev pub ThinFlowExists : Type 0
ThinFlowExists = (net : Network) (sets : Sets) (rate : ℚ) → IsNetwork net → AreSets net sets → HoldNoCycle net sets → EachIsEntered net sets
    → ResetsAreBounded net sets
    → 0ℚ ≤ℚ rate → (flows : List ℚ) × (slopes : List ℚ) × IsThinFlow net sets rate flows slopes
