-- Walks along hops, and least transit sums.
use Rattle.std.specs.Prelude.{◌≡◌, ℕ, List, [], ◌∷◌, Some, slice_get, map}
use Rattle.nf_rational.specs.Rational.{ℚ}
use Rattle.nf_rational.specs.Operations.{0ℚ, ◌+ℚ◌}
use Rattle.nf_rational.specs.Order.{◌≤ℚ◌}
use Rattle.nf_model.specs.Entries.{number_at}

-- A hop leads from its tail to its head in its transit time. A hop represents a link without its capacity.
pub record Hop : Type 0 where
  pub tail : ℕ
  pub head : ℕ
  pub transit : ℚ

-- hops are identified by their index in the list
abbrev pub IsHop : List Hop → ℕ → Hop → Type 0
IsHop hops e hop = slice_get hops e ≡ Some hop

-- A walk from v to w is a list of hop numbers. The first hop leaves v, each later hop leaves the head of the previous one, and the last
-- hop leads to w. Hops may repeat. The empty list is a walk from v to v.
abbrev pub IsWalk : List Hop → List ℕ → ℕ → ℕ → Type 0
IsWalk hops [] v w = v ≡ w
IsWalk hops (e ∷ walk) v w = (hop : Hop) × IsHop hops e hop × (hop.tail ≡ v) × IsWalk hops walk hop.head w

-- the transit time of hop e
abbrev pub transit_of : List Hop → ℕ → ℚ
transit_of hops e = number_at (map (λ hop. hop.transit) hops) e

-- the sum of the transit times along a walk
abbrev pub transit_sum : List Hop → List ℕ → ℚ
transit_sum hops [] = 0ℚ
transit_sum hops (e ∷ walk) = transit_of hops e +ℚ transit_sum hops walk

-- the least transit sum over the walks from v to w: some walk has it, and none has less
pub record IsLeastTransit (hops : List Hop) (v w : ℕ) (least : ℚ) : Type 0 where
  pub taken : (walk : List ℕ) × IsWalk hops walk v w × (transit_sum hops walk ≡ least)
  pub bound : (walk : List ℕ) → IsWalk hops walk v w → least ≤ℚ transit_sum hops walk
