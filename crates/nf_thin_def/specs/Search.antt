-- The search for a thin flow, by the first accepted pattern of the listing, within a budget of patterns.
use Rattle.std.specs.Prelude.{◌≡◌, ℕ, suc, ◌<◌, ◌≤◌, List, length, Err, IsOk}
use Rattle.nf_rational.specs.Rational.{ℚ}
use Rattle.nf_frac_def.specs.Passing.{Passing}
use Rattle.nf_frac_def.specs.declared.PassedAt.{PassedAt}
use Rattle.nf_model.specs.Network.{Network}
use Rattle.nf_model.specs.ThinFlow.{Sets}
use Rattle.nf_model.specs.Pattern.{Pattern, IsSolution}
use Rattle.nf_thin_def.specs.Accepted.{pattern_lists, IsAccepted}
use Rattle.nf_thin_def.specs.Listing.{HasPlace, IsListingIn}

-- The answers of a search.
pub data SearchAnswer : Type 0 where
  -- The first accepted pattern, with its rank and its thin flow: the flows of the links and the slopes of the nodes.
  Found : (place : ℕ) (pattern : Pattern) (flows slopes : List ℚ) → SearchAnswer
  -- The listing is longer than the budget, and no pattern within the budget is accepted.
  OverBudget : SearchAnswer
  -- No pattern is accepted, and an operation passes: the rank of the first such pattern, and its first passing operation.
  PassesAt : (place : ℕ) (at : PassedAt ℚ) → SearchAnswer
  NoPattern : SearchAnswer

module _ (passes : Passing) (net : Network) (sets : Sets) (rate : ℚ) (listing : List Pattern) where
  -- No pattern before this rank is accepted.
  abbrev pub NoneAcceptedBefore : ℕ → Type 0
  NoneAcceptedBefore place = (other : ℕ) (pattern : Pattern) → other < place → HasPlace listing other pattern
      → IsAccepted passes net sets rate pattern → ⊥

  abbrev pub NoneAccepted : Type 0
  NoneAccepted = (other : ℕ) (pattern : Pattern) → HasPlace listing other pattern → IsAccepted passes net sets rate pattern → ⊥

  pub record IsFirstAccepted (budget place : ℕ) (pattern : Pattern) (flows slopes : List ℚ) : Type 0 where
    pub within : place ≤ budget
    pub has_place : HasPlace listing place pattern
    pub first : NoneAcceptedBefore place
    pub accepted : IsAccepted passes net sets rate pattern
    pub solution : IsSolution net sets rate pattern flows slopes

  -- No pattern within the budget is accepted, and the listing is longer.
  pub record IsOverBudget (budget : ℕ) : Type 0 where
    pub longer : budget < length listing
    pub none_accepted : NoneAcceptedBefore (suc budget)

  -- No pattern of the whole listing is accepted, and the listing is not longer than the budget.
  pub record IsInVain (budget : ℕ) : Type 0 where
    pub not_longer : length listing ≤ budget
    pub none_accepted : NoneAccepted

  -- The pattern of this rank is the first one of which an operation passes, and `at` is its first passing operation.
  pub record IsFirstPassing (place : ℕ) (at : PassedAt ℚ) : Type 0 where
    pub pattern : Pattern
    pub has_place : HasPlace listing place pattern
    pub passed : pattern_lists passes net sets rate pattern ≡ Err at
    pub first : (other : ℕ) (before : Pattern) → other < place → HasPlace listing other before
        → IsOk (pattern_lists passes net sets rate before)

  abbrev pub NonePasses : Type 0
  NonePasses = (other : ℕ) (pattern : Pattern) → HasPlace listing other pattern → IsOk (pattern_lists passes net sets rate pattern)

  abbrev pub Answers : ℕ → SearchAnswer → Type 0
  Answers budget (Found place pattern flows slopes) = IsFirstAccepted budget place pattern flows slopes
  Answers budget OverBudget = IsOverBudget budget
  Answers budget (PassesAt place at) = IsInVain budget × IsFirstPassing place at
  Answers budget NoPattern = IsInVain budget × NonePasses

-- The answer of the search with this base pattern and this budget of patterns.
pub record IsSearch (passes : Passing) (net : Network) (sets : Sets) (rate : ℚ) (base : Pattern) (budget : ℕ)
    (answer : SearchAnswer) : Type 0 where
  pub listing : List Pattern
  pub is_listing : IsListingIn net sets base listing
  pub answers : Answers passes net sets rate listing budget answer
