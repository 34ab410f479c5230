-- Shortest residual walks and their room.
use Rattle.std.specs.Prelude.{◌≡◌, ℕ, true, false, Bool, List, [], ◌∷◌, Option, Some, None}
use Rattle.nf_rational.specs.Rational.{ℚ}
use Rattle.nf_rational.specs.Operations.{◌+ℚ◌}
use Rattle.nf_rational.specs.Order.{◌≤ℚ◌}
use Rattle.nf_model.specs.Entries.{number_at}
use Rattle.nf_model.specs.Network.{Link, Network, IsLink}
use Rattle.nf_quick_def.specs.Steps.{Step, IsResidualWalk, walk_length}
use Rattle.nf_quick_def.specs.Order.{Reach, IsAtMost}

-- `least` is the least length of the residual walks from v to w: some walk has that length, and none is shorter.
pub record IsLeastLength (net : Network) (flows : List ℚ) (v w : ℕ) (least : ℚ) : Type 0 where
  pub taken : (walk : List Step) × IsResidualWalk net flows walk v w × (walk_length net walk ≡ least)
  pub bound : (walk : List Step) → IsResidualWalk net flows walk v w → least ≤ℚ walk_length net walk

abbrev pub reach_of : Network → List Step → Reach
reach_of net walk = record { distance = walk_length net walk; steps = walk }

-- `walk` is the first of all residual walks from v to w, in the order of walks.
pub record IsFirstWalk (net : Network) (flows : List ℚ) (v w : ℕ) (walk : List Step) : Type 0 where
  pub is_walk : IsResidualWalk net flows walk v w
  pub first : (other : List Step) → IsResidualWalk net flows other v w → IsAtMost (reach_of net walk) (reach_of net other)

-- An amount has room on a step: at most the flow for a backward step, at most the capacity minus the flow for a forward one.
abbrev pub HasRoomAlong : Bool → Option ℚ → ℚ → ℚ → Type 0
HasRoomAlong true None flow amount = Unit {0}
HasRoomAlong true (Some capacity) flow amount = flow +ℚ amount ≤ℚ capacity
HasRoomAlong false capacity flow amount = amount ≤ℚ flow

abbrev pub HasRoom : Network → List ℚ → ℚ → Step → Type 0
HasRoom net flows amount step = (link : Link) → IsLink net step.link link
    → HasRoomAlong step.forward link.capacity (number_at flows step.link) amount

-- An amount has room on each step of a walk.
abbrev pub HasRoomOn : Network → List ℚ → ℚ → List Step → Type 0
HasRoomOn net flows amount [] = Unit {0}
HasRoomOn net flows amount (step ∷ walk) = HasRoom net flows amount step × HasRoomOn net flows amount walk
