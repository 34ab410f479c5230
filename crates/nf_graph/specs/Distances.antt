-- Least transit sums from a node.
use Rattle.std.specs.Prelude.{◌≡◌, ℕ, ◌<◌, true, Option, Some, None, List, length, slice_get}
use Rattle.nf_rational.specs.Rational.{ℚ}
use Rattle.nf_rational.specs.Operations.{0ℚ, ◌+ℚ◌}
use Rattle.nf_rational.specs.Order.{◌≤ℚ◌}
use Rattle.nf_frac_def.specs.declared.Op.TheVariants.{Sum}
use Rattle.nf_frac_def.specs.Passing.{passes_Q}
use Rattle.nf_model.specs.Walk.{Hop, IsHop, IsWalk, IsLeastTransit}

-- no transit time is negative
abbrev pub NoNegativeTransit : List Hop → Type 0
NoNegativeTransit hops = (e : ℕ) (hop : Hop) → IsHop hops e hop → 0ℚ ≤ℚ hop.transit

-- Each node has one entry: its least transit sum from the node `from`, or None exactly if no walk leads there.
pub record AreDistances (nodes : ℕ) (hops : List Hop) (from : ℕ) (sums : List (Option ℚ)) : Type 0 where
  pub count : length sums ≡ nodes
  pub least : (v : ℕ) (sum : ℚ) → slice_get sums v ≡ Some (Some sum) → IsLeastTransit hops from v sum
  pub none : (v : ℕ) → slice_get sums v ≡ Some None → (walk : List ℕ) → IsWalk hops walk from v → ⊥

-- the sum of these two passes
abbrev pub SumPasses : ℚ → ℚ → Type 0
SumPasses left right = passes_Q Sum left right ≡ true

-- the sum of the least transit sum of the tail of link e and the transit time of the link passes
pub record PassesAt (hops : List Hop) (from e : ℕ) (left right : ℚ) : Type 0 where
  pub hop : Hop
  pub is_hop : IsHop hops e hop
  pub least : IsLeastTransit hops from hop.tail left
  pub transit : hop.transit ≡ right
  pub passes : SumPasses left right

-- ---- states of the search: nodes with a least sum are settled

-- a settled node has this sum
abbrev pub HasSum : List (Option ℚ) → ℕ → ℚ → Type 0
HasSum sums v sum = slice_get sums v ≡ Some (Some sum)

abbrev pub IsUnsettled : List (Option ℚ) → ℕ → Type 0
IsUnsettled sums v = slice_get sums v ≡ Some None

-- a link leads from a settled node to the unsettled node v, and `sum` is the transit sum along it
pub record Offers (hops : List Hop) (sums : List (Option ℚ)) (v : ℕ) (sum : ℚ) : Type 0 where
  pub number : ℕ
  pub hop : Hop
  pub is_hop : IsHop hops number hop
  pub before : ℚ
  pub tail : HasSum sums hop.tail before
  pub head : hop.head ≡ v
  pub not_settled : IsUnsettled sums v
  pub is_sum : sum ≡ before +ℚ hop.transit

-- the offers made to open nodes along the links that Counted allows: each node has the least one, and no sum along these links passes
pub record AreOffers (hops : List Hop) (sums : List (Option ℚ)) (Counted : ℕ → Hop → Type 0) (offers : List (Option ℚ)) : Type 0 where
  pub count : length offers ≡ length sums
  pub given : (v : ℕ) (sum : ℚ) → IsUnsettled sums v → HasSum offers v sum → Offers hops sums v sum
  pub least : (v : ℕ) (sum : ℚ) (o : Offers hops sums v sum) → Counted o.number o.hop → (best : ℚ) × HasSum offers v best × (best ≤ℚ sum)
  pub fits : (e : ℕ) (hop : Hop) (before : ℚ) → IsHop hops e hop → HasSum sums hop.tail before → Counted e hop
      → SumPasses before hop.transit → ⊥

-- each link is counted
abbrev pub AnyLink : ℕ → Hop → Type 0
AnyLink e hop = Unit {0}

-- of the links that leave node v, those before number `count` are counted, and all other links
abbrev pub LinksBefore : ℕ → ℕ → ℕ → Hop → Type 0
LinksBefore v count e hop = hop.tail ≡ v → e < count

-- no sum along a link that leaves a settled node passes
abbrev pub AllFit : List Hop → List (Option ℚ) → Type 0
AllFit hops sums = (e : ℕ) (hop : Hop) (before : ℚ) → IsHop hops e hop → HasSum sums hop.tail before → SumPasses before hop.transit → ⊥

-- `sum` is `before` plus the transit time of the link, and this addition does not pass
abbrev pub IsSumAlong : List Hop → ℕ → ℚ → ℚ → Type 0
IsSumAlong hops link before sum = (hop : Hop) → IsHop hops link hop → (sum ≡ before +ℚ hop.transit) × (SumPasses before hop.transit → ⊥)

-- `before` plus the transit time of `link` passes; e, `left` and `right` are the link and the operands
abbrev pub PassesAlong : List Hop → ℕ → ℚ → ℕ → ℚ → ℚ → Type 0
PassesAlong hops link before e left right =
    (e ≡ link) × (left ≡ before) × SumPasses left right × ((hop : Hop) → IsHop hops link hop → hop.transit ≡ right)

-- the sum along link e, which leaves a settled node, passes
pub record StopsAt (hops : List Hop) (sums : List (Option ℚ)) (e : ℕ) (left right : ℚ) : Type 0 where
  pub hop : Hop
  pub is_hop : IsHop hops e hop
  pub tail : HasSum sums hop.tail left
  pub transit : hop.transit ≡ right
  pub passes : SumPasses left right
