-- The answer of a search among patterns with forced states.
use Rattle.std.proofs.Common.{ℕ, ◌<◌, ◌≤◌, List}
use Rattle.nf_thin_laws.proofs.Common.{ℚ, Passing, Network, Sets, Pattern, IsSolution, IsAccepted, HasPlace, Found, OverBudget, IsSearch, filled, Narrows}
use Rattle.nf_thin_laws.proofs.Common.{NoneFilledBefore}
use Rattle.nf_thin_laws.proofs.Narrowed.{found, beyond}

module _ (passes : Passing) (net : Network) (sets : Sets) (rate : ℚ) (base forced : Pattern) (listing narrow : List Pattern)
    (n : Narrows net sets rate base forced listing narrow) (budget : ℕ) where
  module _ (place : ℕ) (p : Pattern) (at : HasPlace narrow place p) (accepted : IsAccepted passes net sets rate (filled forced p))
      (none : NoneFilledBefore passes net sets rate forced narrow place) where
    pub answer_within : (flows slopes : List ℚ) → IsSolution net sets rate (filled forced p) flows slopes → ((there : ℕ) → HasPlace listing there (filled forced p) → there ≤ budget)
        → (there : ℕ) × IsSearch passes net sets rate base budget (Found there (filled forced p) flows slopes)
    answer_within flows slopes solution few =
        let w = found passes net sets rate base forced listing narrow n place p at accepted none in (
          w.0,
          record {
            listing = listing;
            is_listing = n.whole;
            answers = record { within = few w.0 w.2; has_place = w.2; first = w.3; accepted = accepted; solution = solution };
          },
        )

  pub answer_beyond : (place : ℕ) (p : Pattern) → HasPlace narrow place p → NoneFilledBefore passes net sets rate forced narrow place
      → ((there : ℕ) → HasPlace listing there (filled forced p) → budget < there) → IsSearch passes net sets rate base budget OverBudget
  answer_beyond place p at none more = record { listing = listing; is_listing = n.whole; answers = beyond passes net sets rate base forced listing narrow n budget place p at none more }
