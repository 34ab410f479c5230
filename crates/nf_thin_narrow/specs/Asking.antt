-- The question of a listing with forced states.
use Rattle.std.specs.Prelude.{◌≡◌, Bool, ℕ, zero, suc, ◌≤◌, ◌<◌, MatchBool, List, Some, slice_get}
use Rattle.nf_model.specs.Pattern.{Pattern}
use Rattle.nf_thin_def.specs.Listing.{HasPlace}
use Rattle.nf_thin_laws.specs.Forcing.{unforced_of, sets_left}
use Rattle.nf_pattern.specs.Given.{Question, Given, Last, AtStart, UpTo, IsLater}
use Rattle.nf_pattern.specs.Front.{IsListingOf}

-- The question without the forced links.
abbrev pub question_left : Pattern → Question → Question
question_left forced question = record {
  nodes = question.nodes;
  source = question.source;
  hops = question.hops;
  sets = sets_left forced question.sets;
  unbounded = question.unbounded;
  base = unforced_of forced question.base;
}

-- A pattern's rank in the question's listing is within the budget, or beyond it, as `within` says.
abbrev pub StandsWithin : Question → Pattern → ℕ → Bool → Type 0
StandsWithin question pattern budget within =
    (listing : List Pattern) (place : ℕ) → IsListingOf question listing → HasPlace listing place pattern
    → MatchBool within (place ≤ budget) (budget < place)

-- ---- how far a listing is enumerated

-- The first k patterns of a listing were enumerated, and `last` is the last of them.
abbrev pub GivenUpTo : List Pattern → ℕ → Last → Type 0
GivenUpTo listing zero last = last ≡ AtStart
GivenUpTo listing (suc k) last = (p : Pattern) × (slice_get listing k ≡ Some p) × (last ≡ UpTo p)

-- Exactly the first `given.place` patterns of the question's listing were enumerated.
pub record GoesThrough (question : Question) (given : Given) : Type 0 where
  pub same : given.question ≡ question
  pub counted : (listing : List Pattern) → IsListingOf question listing → GivenUpTo listing given.place given.last

-- The listing is enumerated, but not yet up to this pattern.
pub record IsBehind (question : Question) (given : Given) (pattern : Pattern) : Type 0 where
  pub through : GoesThrough question given
  pub later : IsLater question.base given.last pattern

-- The listing is enumerated exactly up to this pattern.
pub record StandsAt (question : Question) (given : Given) (pattern : Pattern) : Type 0 where
  pub through : GoesThrough question given
  pub last : given.last ≡ UpTo pattern
