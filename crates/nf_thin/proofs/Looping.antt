-- The loop of the search over the patterns of a listing.
use Rattle.std.proofs.Common.{◌≡◌, ℕ, ◌≤◌, List, sym, ap, subst, ◌∙◌, arith, ◌-◌, ◌<◌, suc, Some, None, Result, Ok, Err}
use Rattle.nf_thin.proofs.Common.{ℚ, Passing, Network, IsNetwork, Sets, Pattern, IsListedIn, Answers, IsSearch, Question, Given, IsListedBy, IsNext}
use Rattle.nf_thin.proofs.Common.{NoneLeft, Enumerates, IsPatternIn, has_listing, ThinFlow, Vain, SearchFault, search_fault, AreSetsOf, AsksOf, TriesNext}
use Rattle.nf_thin.proofs.Common.{FindsAt, IsListingOf}
use Rattle.nf_thin.proofs.Searched.{Vainly, none_tried, over_budget, found, vainly_more, search_ends, all_searched}
use Rattle.nf_thin_rank.proofs.Asking.{listed_in}

-- The listing advances, and its first patterns are rejected.
abbrev pub InLoop : Passing → Network → Sets → ℚ → Question → ℕ → Given → Vain → Type 0
InLoop passes net sets rate q budget given vain = (given.question ≡ q) × (vain.tried ≤ budget)
    × ((listing : List Pattern) → IsListingOf q listing → Vainly passes net sets rate listing given.last vain)

-- fewer patterns are left in the budget
pub fewer_left : (budget before after : ℕ) → before < budget → after ≡ suc before → budget - after < budget - before
fewer_left budget before after less more = omega arith

module _ (passes : Passing) (net : Network) (sets : Sets) (rate : ℚ) (first : Given) (budget : ℕ) (good : IsNetwork net) (sets_are : AreSetsOf net sets) (asks : AsksOf net sets first)
    (base : Pattern) (based : first.question.base ≡ base) where
  abbrev q : Question
  q = first.question

  abbrev listing : List Pattern
  listing = (has_listing q asks.is_question).0

  is : IsListingOf q listing
  is = (has_listing q asks.is_question).1

  abbrev Finds : Result (ThinFlow × ℕ) SearchFault → Type 0
  Finds result = FindsAt (IsSearch passes net sets rate base budget) budget result

  done : (result : Result (ThinFlow × ℕ) SearchFault) → FindsAt (Answers passes net sets rate listing budget) budget result → Finds result
  done result a = subst (λ (b : Pattern). FindsAt (IsSearch passes net sets rate b budget) budget result) based
      (all_searched passes net sets rate q asks.asked listing is budget result a)

  pub loop_starts : (given : Given) (vain : Vain) → given ≡ first → vain.tried ≡ 0 → vain.passed ≡ None → InLoop passes net sets rate q budget given vain
  loop_starts given vain same none_tried_yet none_passed = (
    ap (λ (g : Given). g.question) same,
    omega arith,
    λ list l. none_tried passes net sets rate list given.last vain (ap (λ (g : Given). g.last) same ∙ asks.start) none_tried_yet none_passed,
  )

  module _ (given : Given) (vain : Vain) (so : InLoop passes net sets rate q budget given vain) where
    module _ (pattern : Pattern) (after : Given) (gives : Enumerates given (Some pattern) after) where
      next : IsNext q given.last pattern
      next = subst (λ (x : Question). IsNext x given.last pattern) so.0 gives.0

      pub loop_pattern : IsPatternIn net sets pattern
      loop_pattern = listed_in net sets q pattern good sets_are asks.asked next.listed

      pub loop_listed : IsListedIn net sets pattern
      loop_listed = subst (λ (x : Question). IsListedBy x pattern) asks.asked next.listed

      pub loop_finds : (now : Vain) (thin : ThinFlow) → TriesNext passes net sets rate budget pattern vain now (Ok (Some thin))
          → Finds (Ok (thin, now.tried))
      loop_finds now thin t = done (Ok (thin, now.tried))
          (found passes net sets rate listing q is given.last vain (so.2 listing is) pattern next budget now thin t.0 t.1)

      pub loop_fails : (now : Vain) (fault : SearchFault) → TriesNext passes net sets rate budget pattern vain now (Err fault) → Finds (Err fault)
      loop_fails now (SearchFault.Budget tried) t = done (Err (SearchFault.Budget tried))
          (t.1, over_budget passes net sets rate listing q is given.last vain (so.2 listing is) pattern next budget t.0)
      loop_fails now (SearchFault.Passed place at) t = absurd t
      loop_fails now SearchFault.NoPattern t = absurd t
      loop_fails now SearchFault.Memory t = tt

      pub loop_goes_on : (now : Vain) → TriesNext passes net sets rate budget pattern vain now (Ok None) → InLoop passes net sets rate q budget after now
      loop_goes_on now t = (
        ap (λ (g : Given). g.question) gives.1 ∙ so.0,
        (let n = t.1.one_more in let l = t.0 in omega arith),
        λ list l. subst (λ (x : _). Vainly passes net sets rate list x now) (sym (ap (λ (g : Given). g.last) gives.1))
            (vainly_more passes net sets rate list q l given.last vain (so.2 list l) pattern next now t.1),
      )

    pub loop_ends : (after : Given) → Enumerates given None after → (fault : SearchFault) → fault ≡ search_fault vain.passed → Finds (Err fault)
    loop_ends after gives fault same = subst (λ (f : SearchFault). Finds (Err f)) (sym same)
        (done (Err (search_fault vain.passed)) (search_ends passes net sets rate listing q is given.last vain (so.2 listing is)
        (subst (λ (x : Question). NoneLeft x given.last) so.0 gives.0) budget so.1))
