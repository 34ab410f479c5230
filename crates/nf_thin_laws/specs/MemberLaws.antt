-- Thin flows and phases of the network of one link, as members of their definitions.
use Rattle.std.specs.Prelude.{◌≡◌, true, false, List, [], ◌∷◌, Option, Some}
use Rattle.nf_rational.specs.Rational.{ℚ}
use Rattle.nf_rational.specs.Operations.{0ℚ, 1ℚ, ◌/ℚ◌}
use Rattle.nf_rational.specs.Order.{◌≤ℚ◌, ◌<ℚ◌}
use Rattle.nf_model.specs.declared.State.TheVariants.{Tight, Full}
use Rattle.nf_model.specs.Network.{Piece, ArePieces}
use Rattle.nf_model.specs.ThinFlow.{Sets, sets_at, IsThinFlow}
use Rattle.nf_model.specs.Pattern.{IsListedIn, IsSolution}
use Rattle.nf_model.specs.Phases.{moved, IsPhaseSequence}
use Rattle.nf_model_laws.specs.Capacity.{IsPositive}
use Rattle.nf_model_laws.specs.MemberLaws.{one_link, at_rate}

-- The labels of departure 0. By their sets, the link is active and not resetting.
abbrev pub first_labels : ℚ → List ℚ
first_labels transit = 0ℚ ∷ transit ∷ []

abbrev pub first_sets : Sets
first_sets = record { active = true ∷ []; resetting = false ∷ [] }

-- If the link can carry the rate, the pattern with Tight is listed, and its equations have one solution, which meets its inequalities. If
-- the rate is at least the capacity, the same holds for the pattern with Full. A thin flow at the rate makes a phase up to any horizon, if
-- the supply has only this rate from time 0 on.
pub record OneLinkHasPhase : Type 0 where
  pub sets : (transit : ℚ) (capacity : Option ℚ) (pieces : List Piece)
      → sets_at (one_link transit capacity pieces) (first_labels transit) ≡ first_sets
  pub tight : (transit : ℚ) (capacity : Option ℚ) (pieces : List Piece) (rate : ℚ) → 0ℚ ≤ℚ transit → IsPositive capacity → ArePieces pieces
      → 0ℚ ≤ℚ rate → ((most : ℚ) → capacity ≡ Some most → rate ≤ℚ most)
      → IsListedIn (one_link transit capacity pieces) first_sets (Some Tight ∷ [])
      × IsSolution (one_link transit capacity pieces) first_sets rate (Some Tight ∷ []) (rate ∷ []) (1ℚ ∷ 1ℚ ∷ [])
  pub full : (transit capacity : ℚ) (pieces : List Piece) (rate : ℚ) → 0ℚ ≤ℚ transit → 0ℚ <ℚ capacity → ArePieces pieces → capacity ≤ℚ rate
      → IsListedIn (one_link transit (Some capacity) pieces) first_sets (Some Full ∷ [])
      × IsSolution (one_link transit (Some capacity) pieces) first_sets rate (Some Full ∷ []) (rate ∷ []) (1ℚ ∷ rate /ℚ capacity ∷ [])
  pub phase : (transit : ℚ) (capacity : Option ℚ) (rate horizon : ℚ) (flows slopes : List ℚ) → 0ℚ ≤ℚ transit → IsPositive capacity
      → 0ℚ ≤ℚ rate → 0ℚ <ℚ horizon
      → IsThinFlow (one_link transit capacity (at_rate rate [])) first_sets rate flows slopes
      → IsPhaseSequence (one_link transit capacity (at_rate rate [])) horizon
      ((0ℚ, first_labels transit) ∷ (horizon, moved (first_labels transit) slopes horizon) ∷ [])
