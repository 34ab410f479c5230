-- Residual arcs chained by the nodes where they begin.
use Rattle.std.specs.Prelude.{◌≡◌, ℕ, ◌+◌, ◌<◌, ◌≤◌, ◌==◌, if◌then◌else◌, List, [], ◌∷◌, length, drop, get_or, Some, slice_get}
use Rattle.nf_residual.specs.declared.legs.Leg.{Leg}

-- The arcs that begin at node v, in order.
abbrev pub legs_out : ℕ → List Leg → List Leg
legs_out v [] = []
legs_out v (leg ∷ legs) = if leg.begin == v then leg ∷ legs_out v legs else legs_out v legs

-- `at` is the index of the first arc that begins at v, from index k on, or at least the number of arcs if there is none.
pub record IsNextOut (legs : List Leg) (v k at : ℕ) : Type 0 where
  pub later : k ≤ at
  pub skipped : legs_out v (drop k legs) ≡ legs_out v (drop at legs)
  pub here : (leg : Leg) → slice_get legs at ≡ Some leg → leg.begin ≡ v

-- `first` has the first arc out of each node, and `next`, for each arc, the next arc out of the same node.
pub record AreChains (nodes : ℕ) (legs : List Leg) (first next : List ℕ) : Type 0 where
  pub nodes_are : length first ≡ nodes
  pub legs_are : length next ≡ length legs
  pub firsts : (v : ℕ) → v < nodes → IsNextOut legs v 0 (get_or first v 0)
  pub nexts : (k : ℕ) (leg : Leg) → slice_get legs k ≡ Some leg → IsNextOut legs leg.begin (k + 1) (get_or next k 0)
