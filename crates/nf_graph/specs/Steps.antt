-- Intermediate results of the search for least transit sums.
use Rattle.std.specs.Prelude.{◌≡◌, ◌⊎◌, ℕ, ◌<◌, Option, Some, None, List, slice_get, slice_set}
use Rattle.nf_rational.specs.Rational.{ℚ}
use Rattle.nf_rational.specs.Operations.{◌+ℚ◌}
use Rattle.nf_rational.specs.Order.{◌≤ℚ◌, min_ℚ}
use Rattle.nf_model.specs.Walk.{Hop, IsHop}
use Rattle.nf_graph.specs.declared.distance.DistanceFault.{DistanceFault}
use Rattle.nf_graph.specs.declared.distance.DistanceFault.TheVariants.{Passed, Memory}
use Rattle.nf_graph.specs.declared.distance.Step.{Step}
use Rattle.nf_graph.specs.Distances.{HasSum, IsUnsettled, SumPasses}

-- if an operation passed, P holds of the link and the operands
abbrev pub ForPassed : (ℕ → ℚ → ℚ → Type 0) → DistanceFault → Type 0
ForPassed P (Passed link left right) = P link left right
ForPassed P Memory = Unit {0}

-- the lesser one of what a node was offered and this sum
abbrev pub lesser_offer : Option ℚ → ℚ → ℚ
lesser_offer None sum = sum
lesser_offer (Some offered) sum = min_ℚ offered sum

-- link e passes this sum on to its head, if it leaves the node of the step
pub record IsOffered (hops : List Hop) (e : ℕ) (step : Step) (before after : List (Option ℚ)) : Type 0 where
  pub leaves : (hop : Hop) (known : Option ℚ) → IsHop hops e hop → hop.tail ≡ step.node → slice_get before hop.head ≡ Some known
      → after ≡ slice_set before hop.head (Some (lesser_offer known (step.sum +ℚ hop.transit)))
  pub fits : (hop : Hop) → IsHop hops e hop → hop.tail ≡ step.node → SumPasses step.sum hop.transit → ⊥
  pub other : (hop : Hop) → IsHop hops e hop → (hop.tail ≡ step.node → ⊥) → after ≡ before

-- link e leaves the node of the step, and the sum along it passes
pub record PassesFrom (hops : List Hop) (step : Step) (e : ℕ) (left right : ℚ) : Type 0 where
  pub hop : Hop
  pub is_hop : IsHop hops e hop
  pub tail : hop.tail ≡ step.node
  pub left_is : left ≡ step.sum
  pub right_is : hop.transit ≡ right
  pub passes : SumPasses left right

-- the open node v with what it was offered, if it was offered a sum
pub record IsStepTo (sums offers : List (Option ℚ)) (v : ℕ) (offered : Option Step) : Type 0 where
  pub given : (step : Step) → offered ≡ Some step → (step.node ≡ v) × IsUnsettled sums v × HasSum offers v step.sum
  pub every : (sum : ℚ) → IsUnsettled sums v → HasSum offers v sum → (step : Step) × (offered ≡ Some step) × (step.sum ≡ sum)

-- the offer with the lesser sum
abbrev pub IsNearer : Option Step → Option Step → Option Step → Type 0
IsNearer None offered nearer = nearer ≡ offered
IsNearer (Some best) None nearer = nearer ≡ Some best
IsNearer (Some best) (Some offered) nearer =
    ((nearer ≡ Some best) × (best.sum ≤ℚ offered.sum)) ⊎ ((nearer ≡ Some offered) × (offered.sum ≤ℚ best.sum))

-- `best` is the least offer made to the open nodes before number `count`
pub record IsNearestBefore (sums offers : List (Option ℚ)) (count : ℕ) (best : Option Step) : Type 0 where
  pub given : (step : Step) → best ≡ Some step → IsUnsettled sums step.node × HasSum offers step.node step.sum
  pub least : (v : ℕ) (sum : ℚ) → IsUnsettled sums v → HasSum offers v sum → v < count → (step : Step) × (best ≡ Some step) × (step.sum ≤ℚ sum)

-- `best` is the least offer made to the open nodes
pub record IsNearest (sums offers : List (Option ℚ)) (best : Option Step) : Type 0 where
  pub given : (step : Step) → best ≡ Some step → IsUnsettled sums step.node × HasSum offers step.node step.sum
  pub least : (v : ℕ) (sum : ℚ) → IsUnsettled sums v → HasSum offers v sum → (step : Step) × (best ≡ Some step) × (step.sum ≤ℚ sum)
