-- The meaning of the answers.
use Rattle.std.specs.Prelude.{◌≡◌, ℕ, List, length, Option, Some, None, slice_get}
use Rattle.std.specs.List.{AllByRecursion}
use Rattle.nf_rational.specs.Rational.{ℚ}
use Rattle.nf_rational.specs.Operations.{0ℚ}
use Rattle.nf_rational.specs.Order.{◌≤ℚ◌, ◌<ℚ◌}
use Rattle.nf_model.specs.Walk.{IsWalk, transit_sum}
use Rattle.nf_model.specs.Network.{Network, hops}
use Rattle.nf_model.specs.Quickest.{Fed, entered_by, left_by, Delivers, IsQuickest, IsCut, cut_value}
use Rattle.nf_quick_def.specs.Steps.{Step, IsResidualWalk, walk_length}
use Rattle.nf_quick_def.specs.Shortest.{IsLeastLength, IsFirstWalk, HasRoomOn}
use Rattle.nf_quick_def.specs.Rounds.{Walk}
use Rattle.nf_quick_def.specs.Quick.{Quick}

-- ---- residual walks
-- `room` is the least residual capacity of the walk's steps, and above 0: the greatest amount that has room on each step.
pub record IsRoom (net : Network) (flows : List ℚ) (walk : List Step) (room : ℚ) : Type 0 where
  pub some : 0ℚ <ℚ room
  pub has_room : HasRoomOn net flows room walk
  pub greatest : (other : ℚ) → HasRoomOn net flows other walk → other ≤ℚ room

-- `walk` is the first of all residual walks from source to sink, with its length and room.
pub record IsShortestWalk (net : Network) (flows : List ℚ) (walk : Walk) : Type 0 where
  pub first : IsFirstWalk net flows net.source net.sink walk.steps
  pub length_is : walk.length ≡ walk_length net walk.steps
  pub room_is : IsRoom net flows walk.steps walk.room

-- The found walk is the first residual walk from source to sink; None means that there is none.
abbrev pub IsShortest : Network → List ℚ → Option Walk → Type 0
IsShortest net flows None = (walk : List Step) → IsResidualWalk net flows walk net.source net.sink → ⊥
IsShortest net flows (Some walk) = IsShortestWalk net flows walk

-- For each node, the least length of the residual walks to it from node `from`; None exactly if there is no such walk.
pub record AreLeastLengths (net : Network) (flows : List ℚ) (from : ℕ) (distances : List (Option ℚ)) : Type 0 where
  pub count : length distances ≡ net.nodes
  pub least : (v : ℕ) (d : ℚ) → slice_get distances v ≡ Some (Some d) → IsLeastLength net flows from v d
  pub none : (v : ℕ) → slice_get distances v ≡ Some None → (walk : List Step) → IsResidualWalk net flows walk from v → ⊥

-- ---- the quickest flow
-- A walk from source to sink, fed at a rate above 0, with a transit sum of at most `time`.
pub record IsFedWithin (net : Network) (time : ℚ) (fed : Fed) : Type 0 where
  pub is_walk : IsWalk (hops net) fed.walk net.source net.sink
  pub some : 0ℚ <ℚ fed.rate
  pub within : transit_sum (hops net) fed.walk ≤ℚ time

-- The walks, each fed at its rate from time 0 until the time minus its transit sum, are a feasible flow over time. That flow delivers the
-- amount by the time. The value of the cut equals the amount. No feasible flow delivers the amount by an earlier time of at least 0.
pub record IsQuickFlow (net : Network) (amount : ℚ) (quick : Quick) : Type 0 where
  pub walks : AllByRecursion (IsFedWithin net quick.time) quick.walks
  pub delivers : Delivers net (entered_by (hops net) quick.walks quick.time) (left_by (hops net) quick.walks quick.time) amount quick.time
  pub cut : IsCut net quick.time quick.cut
  pub value : quick.value ≡ cut_value net quick.cut
  pub value_is : quick.value ≡ amount
  pub quickest : IsQuickest net amount quick.time
