-- The search, pattern by pattern: the record of rejected patterns, and the answer.
use Rattle.std.proofs.Common.{◌≡◌, ℕ, suc, ◌<◌, ◌≤◌, List, length, ◌⊎◌, inl, inr, ⊎_elim, true, false, refl, sym, ap, subst, ◌∙◌, arith, Option, Some, None}
use Rattle.std.proofs.Common.{slice_get, Result, Ok, Err, IsOk}
use Rattle.nf_thin.proofs.Common.{same_Some, slice_get_within, ℚ, Passing, Network, Sets, Pattern, IsSolution, pattern_lists, IsAccepted, SearchAnswer}
use Rattle.nf_thin.proofs.Common.{Found, OverBudget, PassesAt, NoPattern, NoneAcceptedBefore, IsOverBudget, IsInVain, IsFirstPassing, Answers, IsSearch}
use Rattle.nf_thin.proofs.Common.{Question, Last, AtStart, UpTo, IsNext, NoneLeft, ThinFlow, Vain, SearchFault, or_first, search_fault, question_of}
use Rattle.nf_thin.proofs.Common.{TriesOne, Searches, Noted, InVain, IsFound, TriesNext, FindsAt, IsListingOf, GivenUpTo, given_next, given_all}
use Rattle.nf_thin.proofs.Common.{before_or_at}
use Rattle.nf_frac_def.specs.declared.PassedAt.{PassedAt}
use Rattle.nf_thin_def.specs.Listing.{HasPlace, IsListingIn}

module _ (passes : Passing) (net : Network) (sets : Sets) (rate : ℚ) (listing : List Pattern) where
  -- No operation of the rejected patterns passes, or this is the first that does.
  abbrev pub AllPass : ℕ → Type 0
  AllPass tried = (place : ℕ) (pattern : Pattern) → place < suc tried → HasPlace listing place pattern → IsOk (pattern_lists passes net sets rate pattern)

  abbrev pub PassedBy : ℕ → Option (ℕ × PassedAt ℚ) → Type 0
  PassedBy tried None = AllPass tried
  PassedBy tried (Some (place, at)) = IsFirstPassing passes net sets rate listing place at

  -- The first patterns of the listing are not accepted, and the first passing one is recorded.
  pub record Vainly (last : Last) (vain : Vain) : Type 0 where
    pub given : GivenUpTo listing vain.tried last
    pub none_accepted : NoneAcceptedBefore passes net sets rate listing (suc vain.tried)
    pub passed : PassedBy vain.tried vain.passed

  pub none_tried : (last : Last) (vain : Vain) → last ≡ AtStart → vain.tried ≡ 0 → vain.passed ≡ None → Vainly last vain
  none_tried last vain start none_yet none_passed = record {
    given = subst (λ (n : ℕ). GivenUpTo listing n last) (sym none_yet) start;
    none_accepted = λ place pattern less has. absurd (no_place place pattern less has);
    passed = subst (PassedBy vain.tried) (sym none_passed) (λ place pattern less has. absurd (no_place place pattern less has));
  }
    where
      no_place : (place : ℕ) (pattern : Pattern) → place < suc vain.tried → HasPlace listing place pattern → ⊥
      no_place place pattern less has = let s = has.1 in omega arith

  -- ---- one pattern more
  module _ (q : Question) (is : IsListingOf q listing) (last : Last) (vain : Vain) (so : Vainly last vain) (pattern : Pattern) (next : IsNext q last pattern) where
    here : slice_get listing vain.tried ≡ Some pattern
    here = given_next q listing is last pattern next vain.tried so.given

    place_is : HasPlace listing (suc vain.tried) pattern
    place_is = (vain.tried, refl, here)

    same_here : (place : ℕ) (p : Pattern) → place ≡ suc vain.tried → HasPlace listing place p → p ≡ pattern
    same_here place p same has = same_Some p pattern (sym has.2 ∙ (ap (slice_get listing) (let s = has.1 in omega arith) ∙ here))

    pub over_budget : (budget : ℕ) → vain.tried ≡ budget → IsOverBudget passes net sets rate listing budget
    over_budget budget same = record {
      longer = (let w = slice_get_within listing vain.tried pattern here in omega arith);
      none_accepted = subst (λ (n : ℕ). NoneAcceptedBefore passes net sets rate listing (suc n)) same so.none_accepted;
    }

    pub found : (budget : ℕ) (after : Vain) (thin : ThinFlow) → vain.tried < budget → IsFound passes net sets rate pattern vain after thin
        → Answers passes net sets rate listing budget (Found after.tried thin.pattern thin.flows.items thin.slopes.items)
    found budget after thin less f = record {
      within = (let s = f.place in omega arith);
      has_place = subst (λ (n : ℕ). HasPlace listing n thin.pattern) (sym f.place) (subst (λ (p : Pattern). HasPlace listing (suc vain.tried) p) (sym f.pattern_is) place_is);
      first = subst (NoneAcceptedBefore passes net sets rate listing) (sym f.place) so.none_accepted;
      accepted = subst (IsAccepted passes net sets rate) (sym f.pattern_is) f.accepted;
      solution = subst (λ (p : Pattern). IsSolution net sets rate p thin.flows.items thin.slopes.items) (sym f.pattern_is) f.solution;
    }

    module _ (after : Vain) (counted : InVain passes net sets rate pattern vain after) where
      before_or_here : (place : ℕ) → place < suc after.tried → (place < suc vain.tried) ⊎ (place ≡ suc vain.tried)
      before_or_here place less = before_or_at place (suc vain.tried) (let s = counted.one_more in omega arith)

      none_more : NoneAcceptedBefore passes net sets rate listing (suc after.tried)
      none_more place p less has accepted = ⊎_elim
          (λ (early : place < suc vain.tried). so.none_accepted place p early has accepted)
          (λ (same : place ≡ suc vain.tried). counted.not_accepted (subst (IsAccepted passes net sets rate) (same_here place p same has) accepted))
          (before_or_here place less)

      all_more : AllPass vain.tried → IsOk (pattern_lists passes net sets rate pattern) → AllPass after.tried
      all_more all ok place p less has = ⊎_elim
          (λ (early : place < suc vain.tried). all place p early has)
          (λ (same : place ≡ suc vain.tried). subst (λ (x : Pattern). IsOk (pattern_lists passes net sets rate x)) (sym (same_here place p same has)) ok)
          (before_or_here place less)

      -- The record of the patterns before.
      still : (before : Option (ℕ × PassedAt ℚ)) → PassedBy vain.tried before → IsOk (pattern_lists passes net sets rate pattern) → PassedBy after.tried before
      still None all ok = all_more all ok
      still (Some (place, at)) first ok = first

      now : (at : PassedAt ℚ) → pattern_lists passes net sets rate pattern ≡ Err at → (before : Option (ℕ × PassedAt ℚ)) → PassedBy vain.tried before
          → PassedBy after.tried (or_first before (suc vain.tried, at))
      now at passes_here None all = record { pattern = pattern; has_place = place_is; passed = passes_here; first = λ other p less has. all other p less has }
      now at passes_here (Some (place, first_at)) first = first

      noted : PassedBy vain.tried vain.passed → Noted passes net sets rate pattern vain.passed after.passed (suc vain.tried) → PassedBy after.tried after.passed
      noted before (inl w) = subst (PassedBy after.tried) (sym w.1) (still vain.passed before w.0)
      noted before (inr w) = subst (PassedBy after.tried) (sym w.2) (now w.0 w.1 vain.passed before)

      pub vainly_more : Vainly (UpTo pattern) after
      vainly_more = record {
        given = subst (λ (n : ℕ). GivenUpTo listing n (UpTo pattern)) (sym counted.one_more) (pattern, here, refl);
        none_accepted = none_more;
        passed = noted so.passed counted.noted;
      }

  -- ---- the end
  module _ (q : Question) (is : IsListingOf q listing) (last : Last) (vain : Vain) (so : Vainly last vain) (none : NoneLeft q last) (budget : ℕ) (within : vain.tried ≤ budget) where
    all_given : length listing ≤ vain.tried
    all_given = given_all q listing is vain.tried last so.given none

    tried_all : (place : ℕ) (p : Pattern) → HasPlace listing place p → place < suc vain.tried
    tried_all place p has = let w = slice_get_within listing has.0 p has.2 in let s = has.1 in let l = all_given in omega arith

    in_vain : IsInVain passes net sets rate listing budget
    in_vain = record { not_longer = (let l = all_given in omega arith); none_accepted = λ place p has accepted. so.none_accepted place p (tried_all place p has) has accepted }

    ended : (passed : Option (ℕ × PassedAt ℚ)) → PassedBy vain.tried passed → Searches (Answers passes net sets rate listing budget) budget (Err (search_fault passed))
    ended None all = (in_vain, λ place p has. all place p (tried_all place p has) has)
    ended (Some (place, at)) first = (in_vain, first)

    pub search_ends : Searches (Answers passes net sets rate listing budget) budget (Err (search_fault vain.passed))
    search_ends = ended vain.passed so.passed

-- ---- with the listing
module _ (passes : Passing) (net : Network) (sets : Sets) (rate : ℚ) (q : Question) (asked : q ≡ question_of net sets q.base) (listing : List Pattern)
    (is : IsListingOf q listing) (budget : ℕ) where
  listing_in : IsListingIn net sets q.base listing
  listing_in = subst (λ (x : Question). IsListingOf x listing) asked is

  searched : (answer : SearchAnswer) → Answers passes net sets rate listing budget answer → IsSearch passes net sets rate q.base budget answer
  searched answer a = record { listing = listing; is_listing = listing_in; answers = a }

  pub all_searched : (result : Result (ThinFlow × ℕ) SearchFault) → FindsAt (Answers passes net sets rate listing budget) budget result
      → FindsAt (IsSearch passes net sets rate q.base budget) budget result
  all_searched (Ok (thin, place)) a = searched (Found place thin.pattern thin.flows.items thin.slopes.items) a
  all_searched (Err (SearchFault.Budget tried)) a = (a.0, searched OverBudget a.1)
  all_searched (Err (SearchFault.Passed place at)) a = searched (PassesAt place at) a
  all_searched (Err SearchFault.NoPattern) a = searched NoPattern a
  all_searched (Err SearchFault.Memory) a = tt

-- ---- one step of the search
module _ (passes : Passing) (net : Network) (sets : Sets) (rate : ℚ) (pattern : Pattern) where
  pub passing_not_accepted : (at : PassedAt ℚ) → pattern_lists passes net sets rate pattern ≡ Err at → IsAccepted passes net sets rate pattern → ⊥
  passing_not_accepted at e accepted = no (subst IsOk e accepted.none_passes)
    where
      no : false ≡ true → ⊥
      no e = cc

  -- One step with a pattern of which no operation passes.
  pub tried : (budget : ℕ) (before after : Vain) → before.tried < budget → after.tried ≡ suc before.tried → after.passed ≡ before.passed
      → (found : Option ThinFlow) → TriesOne passes net sets rate pattern (Ok found) → TriesNext passes net sets rate budget pattern before after (Ok found)
  tried budget before after less one_more same (Some thin) t = (less, record { place = one_more; pattern_is = t.0; accepted = t.1; solution = t.2 })
  tried budget before after less one_more same None t = (less, record { one_more = one_more; not_accepted = λ a. t.1 a.solvable; noted = inl (t.0, same) })
