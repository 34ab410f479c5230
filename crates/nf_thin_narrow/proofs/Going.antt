-- A listing that advances: its enumerated patterns, and the rank of the pattern sought.
use Rattle.std.proofs.Common.{◌≡◌, ℕ, suc, ◌-◌, ◌^◌, ◌<◌, List, sym, ap, subst, ◌∙◌, arith, Some, None}
use Rattle.nf_thin_narrow.proofs.Common.{Pattern, HasPlace, IsListingOf, Question, IsQuestion, IsListedBy, Given, Last, AtStart, UpTo, IsLater, IsNext}
use Rattle.nf_thin_narrow.proofs.Common.{NoneLeft, Enumerates, GivenUpTo, GoesThrough, IsBehind, StandsAt}
use Rattle.nf_pattern.proofs.Deciding.{has_listing}
use Rattle.nf_thin_narrow.proofs.Places.{later_place}
use Rattle.nf_thin_narrow.proofs.Standing.{found_here, not_here, behind_all, given_more}

-- The pattern is not among the enumerated ones.
abbrev pub IsAhead : Question → Given → Pattern → Type 0
IsAhead q given pattern = (listing : List Pattern) (place : ℕ) → IsListingOf q listing → HasPlace listing place pattern → given.place < place

pub ahead : (q : Question) (given : Given) (pattern : Pattern) → IsBehind q given pattern → IsAhead q given pattern
ahead q given pattern behind listing place is at =
    later_place q listing is given.place given.last (behind.through.counted listing is) pattern behind.later place at

module _ (q : Question) (given after : Given) (through : GoesThrough q given) (pattern : Pattern) (is_ahead : IsAhead q given pattern) where
  module _ (p : Pattern) (gives : Enumerates given (Some p) after) (room : given.place < 2 ^ 64 - 1) where
    next : IsNext q given.last p
    next = subst (λ (x : Question). IsNext x given.last p) through.same gives.0

    one_more : after.place ≡ suc given.place
    one_more = let e = ap (λ (g : Given). g.place) gives.1 in omega arith

    goes_on : GoesThrough q after
    goes_on = record {
      same = ap (λ (g : Given). g.question) gives.1 ∙ through.same;
      counted = λ listing is. subst (λ (n : ℕ). GivenUpTo listing n after.last) (sym one_more)
          (subst (λ (l : Last). GivenUpTo listing (suc given.place) l) (sym (ap (λ (g : Given). g.last) gives.1))
          (given_more q listing is given.place given.last (through.counted listing is) p next));
    }

    pub stands_here : p ≡ pattern → StandsAt q after pattern
    stands_here same = record { through = goes_on; last = ap (λ (g : Given). g.last) gives.1 ∙ ap (λ (x : Pattern). UpTo x) same }

    pub place_here : p ≡ pattern → (listing : List Pattern) (place : ℕ) → IsListingOf q listing → HasPlace listing place pattern → place ≡ suc given.place
    place_here same listing place is at = found_here q listing is place pattern at given.place given.last (through.counted listing is) p next same

    pub still_ahead : (p ≡ pattern → ⊥) → record { through : GoesThrough q after; later : IsAhead q after pattern }
    still_ahead other = record {
      through = goes_on;
      later = λ listing place is at.
          (let h = not_here q listing is place pattern at given.place given.last (through.counted listing is) p next other (is_ahead listing place is at) in
          let e = one_more in omega arith);
    }

  module _ (gives : Enumerates given None after) where
    pub no_more : (listing : List Pattern) (place : ℕ) → IsListingOf q listing → HasPlace listing place pattern → ⊥
    no_more listing place is at =
        let all = behind_all q listing is place pattern at given.place given.last (through.counted listing is) (subst (λ (x : Question). NoneLeft x given.last) through.same gives.0) in
        let h = is_ahead listing place is at in omega arith

    pub not_listed : IsQuestion q → IsListedBy q pattern → ⊥
    not_listed asked listed = let l = has_listing q asked in let w = l.1.whole pattern listed in no_more l.0 w.0 l.1 w.1

-- Nothing is enumerated yet.
pub from_start : (q : Question) (given : Given) (pattern : Pattern) → given.question ≡ q → given.last ≡ AtStart → given.place ≡ 0 → IsBehind q given pattern
from_start q given pattern same start none = record {
  through = record { same = same; counted = λ listing is. subst (λ (n : ℕ). GivenUpTo listing n given.last) (sym none) start };
  later = subst (λ (l : Last). IsLater q.base l pattern) (sym start) tt;
}
