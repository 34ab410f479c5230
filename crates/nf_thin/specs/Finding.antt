-- The result of a search that tries only listed patterns with the forced states.
use Rattle.std.specs.Prelude.{◌≡◌, ℕ, ◌<◌, ◌≤◌, List, Option, Some, None, Result, Ok, Err}
use Rattle.nf_rational.specs.Rational.{ℚ}
use Rattle.nf_frac_def.specs.Passing.{Passing}
use Rattle.nf_model.specs.Network.{Network}
use Rattle.nf_model.specs.ThinFlow.{Sets}
use Rattle.nf_model.specs.Pattern.{Pattern, IsSolution}
use Rattle.nf_thin_def.specs.Accepted.{IsAccepted}
use Rattle.nf_thin_def.specs.Listing.{HasPlace}
use Rattle.nf_thin_def.specs.Search.{SearchAnswer, Found}
use Rattle.nf_thin_laws.specs.Forcing.{filled}
use Rattle.nf_thin_laws.specs.NarrowLaws.{Narrows, NoneFilledBefore}
use Rattle.nf_thin_one.specs.declared.thin.ThinFlow.{ThinFlow}
use Rattle.nf_thin.specs.declared.fault.SearchFault.{SearchFault}
use Rattle.nf_thin.specs.Searching.{Searches}

-- The thin flow is that of the first accepted pattern with the forced states, which has this place among the patterns left. The pattern's
-- rank in the whole listing is within the budget.
pub record IsFirstFilled (passes : Passing) (net : Network) (sets : Sets) (rate : ℚ) (forced : Pattern) (listing narrow : List Pattern)
    (budget : ℕ) (found : ThinFlow) : Type 0 where
  pub place : ℕ
  pub part : Pattern
  pub has_place : HasPlace narrow place part
  pub pattern_is : found.pattern ≡ filled forced part
  pub accepted : IsAccepted passes net sets rate (filled forced part)
  pub solution : IsSolution net sets rate (filled forced part) found.flows.items found.slopes.items
  pub first : NoneFilledBefore passes net sets rate forced narrow place
  pub within : (there : ℕ) → HasPlace listing there (filled forced part) → there ≤ budget

-- A pattern's rank in the whole listing is beyond the budget, and no earlier pattern left is accepted.
pub record GoesBeyond (passes : Passing) (net : Network) (sets : Sets) (rate : ℚ) (forced : Pattern) (listing narrow : List Pattern)
    (budget : ℕ) : Type 0 where
  pub place : ℕ
  pub part : Pattern
  pub has_place : HasPlace narrow place part
  pub none : NoneFilledBefore passes net sets rate forced narrow place
  pub beyond : (there : ℕ) → HasPlace listing there (filled forced part) → budget < there

abbrev pub NarrowAnswers : Passing → Network → Sets → ℚ → Pattern → List Pattern → List Pattern → ℕ
    → Result (Option ThinFlow) SearchFault → Type 0
NarrowAnswers passes net sets rate forced listing narrow budget (Ok (Some found)) =
    IsFirstFilled passes net sets rate forced listing narrow budget found
NarrowAnswers passes net sets rate forced listing narrow budget (Ok None) = Unit {0}
NarrowAnswers passes net sets rate forced listing narrow budget (Err (SearchFault.Budget tried)) = (tried ≡ budget)
    × GoesBeyond passes net sets rate forced listing narrow budget
NarrowAnswers passes net sets rate forced listing narrow budget (Err (SearchFault.Passed place at)) = ⊥
NarrowAnswers passes net sets rate forced listing narrow budget (Err SearchFault.NoPattern) = ⊥
NarrowAnswers passes net sets rate forced listing narrow budget (Err SearchFault.Memory) = Unit {0}

-- The narrow search has such an answer, for all listings of the two questions.
abbrev pub NarrowFinds : Passing → Network → Sets → ℚ → Pattern → Pattern → ℕ → Result (Option ThinFlow) SearchFault → Type 0
NarrowFinds passes net sets rate base forced budget result =
    (listing narrow : List Pattern) → Narrows net sets rate base forced listing narrow
    → NarrowAnswers passes net sets rate forced listing narrow budget result

-- ---- the search for a thin flow without its place

-- The result is the answer of the definition, at some place, unless an allocation failed.
abbrev pub Finds : (SearchAnswer → Type 0) → ℕ → Result ThinFlow SearchFault → Type 0
Finds Answers budget (Ok found) = (place : ℕ) × Answers (Found place found.pattern found.flows.items found.slopes.items)
Finds Answers budget (Err fault) = Searches Answers budget (Err fault)

-- The result is the answer of the definition, with this place.
abbrev pub FindsAt : (SearchAnswer → Type 0) → ℕ → Result (ThinFlow × ℕ) SearchFault → Type 0
FindsAt Answers budget (Ok (found, place)) = Answers (Found place found.pattern found.flows.items found.slopes.items)
FindsAt Answers budget (Err fault) = Searches Answers budget (Err fault)

-- The result is the answer of the definition if the search by slopes has one.
abbrev pub FindsBy : (SearchAnswer → Type 0) → ℕ → Result (Option ThinFlow) SearchFault → Type 0
FindsBy Answers budget (Ok (Some found)) = Finds Answers budget (Ok found)
FindsBy Answers budget (Ok None) = Unit {0}
FindsBy Answers budget (Err fault) = Finds Answers budget (Err fault)
