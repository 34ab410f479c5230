-- The labels a flow has reached, and runs that stop without a thin flow.
use Rattle.std.specs.Prelude.{◌≡◌, ℕ, List, map, Option, Some}
use Rattle.std.specs.List.{range_with_len}
use Rattle.nf_rational.specs.Rational.{ℚ}
use Rattle.nf_model.specs.Network.{Network, rate_at}
use Rattle.nf_model.specs.ThinFlow.{sets_at, IsThinFlow}
use Rattle.nf_model.specs.Equilibrium.{Flow, label}
use Rattle.nf_net_def.specs.declared.Cause.{Cause}

-- the label of each node at the departure reached
abbrev pub labels_reached : Network → Flow → List ℚ
labels_reached net flow = map (λ v. label flow v flow.reached) (range_with_len 0 net.nodes)

-- there is no thin flow for the sets of the labels reached and the supply rate there
abbrev pub NoThinFlowFrom : Network → Flow → Type 0
NoThinFlowFrom net flow = (flows slopes : List ℚ)
    → IsThinFlow net (sets_at net (labels_reached net flow)) (rate_at net flow.reached) flows slopes → ⊥

-- if the run stopped with this flow because no pattern was left, there is no thin flow at the departure reached
abbrev pub StopsForNoThinFlow : Network → Option (Cause ℚ) → Flow → Type 0
StopsForNoThinFlow net stop flow = (phase : ℕ) → stop ≡ Some (Cause.NoPattern phase) → NoThinFlowFrom net flow
