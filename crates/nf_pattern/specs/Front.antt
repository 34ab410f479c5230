-- The listing of a question, and its enumerated prefix.
use Rattle.std.specs.Prelude.{◌≡◌, ℕ, ◌-◌, ◌^◌, ◌<◌, min, List, [], ◌∷◌, ◌++◌, length, Some, None, slice_get}
use Rattle.nf_model.specs.Pattern.{Pattern, IsBefore}
use Rattle.nf_thin_def.specs.Listing.{IsListing}
use Rattle.nf_pattern.specs.Given.{Question, IsQuestion, IsListedBy, Given, AtStart, IsLater, Enumerates}

abbrev pub IsListingOf : Question → List Pattern → Type 0
IsListingOf question listing = IsListing question.nodes question.source question.hops question.sets question.unbounded question.base listing

-- Every question has a listing.
abbrev pub HaveListings : Type 0
HaveListings = (question : Question) → IsQuestion question → (listing : List Pattern) × IsListingOf question listing

-- The list `front` is enumerated. Its patterns are listed and in order, and it holds each listed pattern that does not come later. The
-- place is its length, capped at 2^64 - 1.
pub record AreGiven (given : Given) (front : List Pattern) : Type 0 where
  pub listed : (i : ℕ) (p : Pattern) → slice_get front i ≡ Some p → IsListedBy given.question p
  pub ordered : (i j : ℕ) (p q : Pattern) → i < j → slice_get front i ≡ Some p → slice_get front j ≡ Some q
      → IsBefore given.question.base p q
  pub whole : (r : Pattern) → IsListedBy given.question r → (IsLater given.question.base given.last r → ⊥)
      → (i : ℕ) × (slice_get front i ≡ Some r)
  pub before : (i : ℕ) (p r : Pattern) → slice_get front i ≡ Some p → IsLater given.question.base given.last r
      → IsBefore given.question.base p r
  pub place : given.place ≡ min (length front) (2 ^ 64 - 1)

-- The enumerated patterns are a prefix of the listing. They are none at the start, and the next pattern is appended to them. If none is
-- left, they are the listing.
pub record GivenAreFronts : Type 0 where
  pub start : (question : Question) → AreGiven (record { question = question; last = AtStart; place = 0 }) []
  pub more : (given after : Given) (front : List Pattern) (p : Pattern) → AreGiven given front → Enumerates given (Some p) after
      → AreGiven after (front ++ p ∷ [])
  pub end : (given after : Given) (front : List Pattern) → AreGiven given front → Enumerates given None after → IsListingOf given.question front
  pub front : (given : Given) (front listing : List Pattern) → AreGiven given front → IsListingOf given.question listing
      → (i : ℕ) (p : Pattern) → slice_get front i ≡ Some p → slice_get listing i ≡ Some p
