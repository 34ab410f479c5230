-- Theorems on residual walks.
use Rattle.std.specs.Prelude.{◌≡◌, ◌⊎◌, ℕ, ◌<◌, List, length, replicate, Option, Some, None, Ok}
use Rattle.nf_rational.specs.Rational.{ℚ}
use Rattle.nf_rational.specs.Operations.{0ℚ, ◌+ℚ◌, ◌-ℚ◌, ◌*ℚ◌}
use Rattle.nf_rational.specs.Order.{◌≤ℚ◌, ◌<ℚ◌}
use Rattle.nf_frac_def.specs.Passing.{Passing}
use Rattle.nf_model.specs.Network.{Network, IsNetwork}
use Rattle.nf_quick_def.specs.Steps.{Step, IsResidualWalk, walk_length, IsLimited}
use Rattle.nf_quick_def.specs.Flows.{IsSound, flow_value, cost_of}
use Rattle.nf_quick_def.specs.Order.{Reach}
use Rattle.nf_quick_def.specs.Rounds.{Known, known_at, Walk, reaches_list, distances_list, shortest_list}
use Rattle.nf_quick_def.specs.Pushes.{push_list}
use Rattle.nf_quick_def.specs.Answers.{IsShortestWalk, IsShortest, AreLeastLengths}
use Rattle.nf_quick_def.specs.Shortest.{IsLeastLength, IsFirstWalk, HasRoomOn}
use Rattle.nf_quick_def.specs.Pushed.{IsPushed}

-- No closed residual walk has negative length.
abbrev pub NoneNegative : Network → List ℚ → Type 0
NoneNegative net flows = (walk : List Step) (v : ℕ) → IsResidualWalk net flows walk v v → 0ℚ ≤ℚ walk_length net walk

-- The known path to node v is the first of all residual walks to v, with its length; None means that no residual walk leads to v.
abbrev pub IsFoundAt : Network → List ℚ → ℕ → ℕ → Option Reach → Type 0
IsFoundAt net flows from v None = (walk : List Step) → IsResidualWalk net flows walk from v → ⊥
IsFoundAt net flows from v (Some q) = IsFirstWalk net flows from v q.steps × (q.distance ≡ walk_length net q.steps)

-- To each node w, the residual walks from v have a least length, or there are none.
abbrev pub EachHasLeast : Network → List ℚ → ℕ → Type 0
EachHasLeast net flows v = (w : ℕ) → ((least : ℚ) × IsLeastLength net flows v w least)
    ⊎ ((walk : List Step) → IsResidualWalk net flows walk v w → ⊥)

-- `new` results from pushing `amount` along `walk`, the first residual walk from source to sink, which has room for it.
pub record IsPush (net : Network) (flows new : List ℚ) (walk : List Step) (amount : ℚ) : Type 0 where
  pub sound : IsSound net flows
  pub each : EachHasLeast net flows net.source
  pub first : IsFirstWalk net flows net.source net.sink walk
  pub some : 0ℚ <ℚ amount
  pub room : HasRoomOn net flows amount walk
  pub pushed : IsPushed flows walk amount new

-- Effects of pushing an amount above 0 along the first residual walk. The new flow is sound. Its value grows by the amount, its cost by the
-- amount times the length of the walk. No residual walk from source to sink is then shorter than the pushed walk. No residual walk from
-- sink to source is shorter than minus that length.
pub record PushKeepsSound : Type 0 where
  pub sound : (net : Network) (flows new : List ℚ) (walk : List Step) (amount : ℚ) → IsNetwork net → IsPush net flows new walk amount
      → IsSound net new
  pub value : (net : Network) (flows new : List ℚ) (walk : List Step) (amount : ℚ) → IsNetwork net → IsPush net flows new walk amount
      → flow_value net new ≡ flow_value net flows +ℚ amount
  pub cost : (net : Network) (flows new : List ℚ) (walk : List Step) (amount : ℚ) → IsNetwork net → IsPush net flows new walk amount
      → cost_of net new ≡ cost_of net flows +ℚ walk_length net walk *ℚ amount
  pub later : (net : Network) (flows new : List ℚ) (walk other : List Step) (amount : ℚ) → IsNetwork net → IsPush net flows new walk amount
      → IsResidualWalk net new other net.source net.sink → walk_length net walk ≤ℚ walk_length net other
  pub back : (net : Network) (flows new : List ℚ) (walk other : List Step) (amount : ℚ) → IsNetwork net → IsPush net flows new walk amount
      → IsResidualWalk net new other net.sink net.source → 0ℚ -ℚ walk_length net walk ≤ℚ walk_length net other

-- If no closed residual walk has negative length, one round fewer than there are nodes finds the first walk to each node. So each node to
-- which a residual walk leads has a first walk and a least length.
pub record RoundsFindFirstWalks : Type 0 where
  pub found : (passes : Passing) (net : Network) (flows : List ℚ) (from : ℕ) (known : Known) → IsNetwork net → from < net.nodes
      → NoneNegative net flows
      → reaches_list passes net flows from ≡ Ok known → (v : ℕ) → IsFoundAt net flows from v (known_at known v)
  pub least : (net : Network) (flows : List ℚ) (from : ℕ) → IsNetwork net → from < net.nodes → NoneNegative net flows
      → EachHasLeast net flows from

-- Results of the operation sequences for a sound flow, if no operation passes: the shortest walk with its room, or None if there is none;
-- the least lengths; and a push along that walk of at most its room.
pub record ListsFindAndPush : Type 0 where
  pub shortest : (passes : Passing) (net : Network) (flows : List ℚ) (found : Option Walk) → IsNetwork net → IsSound net flows
      → IsLimited net
      → shortest_list passes net flows ≡ Ok found → IsShortest net flows found
  pub distances : (passes : Passing) (net : Network) (flows : List ℚ) (from : ℕ) (distances : List (Option ℚ)) → IsNetwork net
      → IsSound net flows → from < net.nodes
      → distances_list passes net flows from ≡ Ok distances → AreLeastLengths net flows from distances
  pub pushes : (passes : Passing) (net : Network) (flows new : List ℚ) (walk : Walk) (amount : ℚ) → IsNetwork net → IsSound net flows
      → IsShortestWalk net flows walk → 0ℚ <ℚ amount
      → amount ≤ℚ walk.room → push_list passes walk.steps amount flows ≡ Ok new → IsPush net flows new walk.steps amount

-- The flow 0 is sound.
abbrev pub ZeroFlowIsSound : Type 0
ZeroFlowIsSound = (net : Network) → IsNetwork net → IsSound net (replicate (length net.links) 0ℚ)
