-- The loop over the patterns left without the forced links.
use Rattle.std.proofs.Common.{◌≡◌, ⊎_elim, ℕ, suc, ◌<◌, List, length, true, false, refl, sym, ap, subst, ◌∙◌, arith, Some, None, slice_get, Ok, Err}
use Rattle.nf_thin.proofs.Common.{same_Some, ℚ, Passing, Network, hops, unbounded, Sets, Pattern, IsPattern, IsListedIn, IsBefore, IsAccepted, before_or_at}
use Rattle.nf_thin.proofs.Common.{filled, IsForcing, Narrows, NoneFilledBefore, left_count, filled_listed, Question, IsListedBy, Given, Last, AtStart, UpTo}
use Rattle.nf_thin.proofs.Common.{IsLater, IsNext, Enumerates, question_left, StandsWithin, GivenUpTo, StandsAt, given_next, ThinFlow, SearchFault, Vain}
use Rattle.nf_thin.proofs.Common.{AreSetsOf, question_of, SiftsNext, NarrowFinds, StaysBehind, IsInStep, walk_of}
use Rattle.nf_thin_laws.proofs.Narrowed.{order_put, no_earlier_place}
use Rattle.nf_thin_rank.specs.declared.pace.Pace.{Pace}

-- The first patterns left are enumerated, and none of them is accepted.
abbrev pub NarrowVainly : Passing → Network → Sets → ℚ → Pattern → Pattern → ℕ → Last → Type 0
NarrowVainly passes net sets rate base forced tried last =
    (listing narrow : List Pattern) → Narrows net sets rate base forced listing narrow → GivenUpTo narrow tried last × NoneFilledBefore passes net sets rate forced narrow (suc tried)

pub none_yet : (passes : Passing) (net : Network) (sets : Sets) (rate : ℚ) (base forced : Pattern) (last : Last) → last ≡ AtStart → NarrowVainly passes net sets rate base forced 0 last
none_yet passes net sets rate base forced last start listing narrow n = (start, λ other p less at accepted. absurd (let e = at.1 in omega arith))

-- The full listing, if it is advanced, is at the last of these patterns, with the forced states.
pub record IsWhole (net : Network) (sets : Sets) (base forced : Pattern) (last : Last) (all : Given) : Type 0 where
  pub part : Pattern
  pub listed : IsListedBy (question_left forced (question_of net sets base)) part
  pub is_last : last ≡ UpTo part
  pub stands : StandsAt (question_of net sets base) all (filled forced part)

abbrev pub KeepsUp : Network → Sets → Pattern → Pattern → Last → Pace → Type 0
KeepsUp net sets base forced last pace = (all : Given) → walk_of pace ≡ Some all → IsWhole net sets base forced last all

module _ (passes : Passing) (net : Network) (sets : Sets) (rate : ℚ) (base forced : Pattern) (sets_are : AreSetsOf net sets) (forcing : IsForcing sets (unbounded net) forced)
    (given : Given) (same : given.question ≡ question_left forced (question_of net sets base)) (p : Pattern) (after : Given) (gives : Enumerates given (Some p) after) where
  next : IsNext (question_left forced (question_of net sets base)) given.last p
  next = subst (λ (q : Question). IsNext q given.last p) same gives.0

  pub whole_listed : IsListedIn net sets (filled forced p)
  whole_listed = filled_listed sets (unbounded net) forced forcing net.nodes net.source (hops net) p next.listed

  -- The next pattern is later, so the full listing is still before it.
  pub next_later : IsPattern sets (unbounded net) base → (pace : Pace) → KeepsUp net sets base forced given.last pace → StaysBehind (question_of net sets base) pace (filled forced p)
  next_later is_base pace keeps all is =
      let w = keeps all is in
      let later : IsBefore (question_left forced (question_of net sets base)).base w.part p =
      subst (λ (l : Last). IsLater (question_left forced (question_of net sets base)).base l p) w.is_last next.later in
      record {
        through = w.stands.through;
        later = subst (λ (l : Last). IsLater base l (filled forced p)) (sym w.stands.last)
            (order_put sets (unbounded net) forced base w.part p forcing is_base w.listed.states next.listed.states later);
      }

  pub next_kept : (pace : Pace) → IsInStep (question_of net sets base) pace (filled forced p) → KeepsUp net sets base forced after.last pace
  next_kept pace in_step all is = record { part = p; listed = next.listed; is_last = ap (λ (g : Given). g.last) gives.1; stands = in_step all is }

  pub part_count : length p ≡ length net.links
  part_count = sym (left_count sets (unbounded net) forced forcing p next.listed.states) ∙ (forcing.count ∙ sets_are.sets_are.count)

  pub whole_count : length (filled forced p) ≡ length net.links
  whole_count = whole_listed.states.count ∙ sets_are.sets_are.count

  module _ (budget : ℕ) (before now : Vain) (vainly : NarrowVainly passes net sets rate base forced before.tried given.last) where
    module _ (listing narrow : List Pattern) (n : Narrows net sets rate base forced listing narrow) where
      here : slice_get narrow before.tried ≡ Some p
      here = given_next (question_left forced (question_of net sets base)) narrow n.part given.last p next before.tried (vainly listing narrow n).0

    pub narrow_found : (thin : ThinFlow) → SiftsNext passes net sets rate budget (filled forced p) before now (Ok (Some thin))
        → StandsWithin (question_of net sets base) (filled forced p) budget true → NarrowFinds passes net sets rate base forced budget (Ok (Some thin))
    narrow_found thin t near listing narrow n = record {
      place = suc before.tried;
      part = p;
      has_place = (before.tried, refl, here listing narrow n);
      pattern_is = t.1.pattern_is;
      accepted = t.1.accepted;
      solution = t.1.solution;
      first = (vainly listing narrow n).1;
      within = λ there at. near listing there n.whole at;
    }

    pub narrow_beyond : StandsWithin (question_of net sets base) (filled forced p) budget false → NarrowFinds passes net sets rate base forced budget (Err (SearchFault.Budget budget))
    narrow_beyond far listing narrow n = (
      refl,
      record {
        place = suc before.tried;
        part = p;
        has_place = (before.tried, refl, here listing narrow n);
        none = (vainly listing narrow n).1;
        beyond = λ there at. far listing there n.whole at;
      },
    )

    pub narrow_failed : (fault : SearchFault) → SiftsNext passes net sets rate budget (filled forced p) before now (Err fault)
        → NarrowFinds passes net sets rate base forced budget (Err fault)
    narrow_failed (SearchFault.Budget tried) t listing narrow n = (
      t.1,
      record {
        place = suc before.tried;
        part = p;
        has_place = (before.tried, refl, here listing narrow n);
        none = (vainly listing narrow n).1;
        beyond = λ there at.
            (let le = no_earlier_place passes net sets rate base forced listing narrow n (suc before.tried) there p
            (before.tried, refl, here listing narrow n) at in let e = t.0 in omega arith);
      },
    )
    narrow_failed (SearchFault.Passed place at) t listing narrow n = t
    narrow_failed SearchFault.NoPattern t listing narrow n = t
    narrow_failed SearchFault.Memory t listing narrow n = tt

    pub narrow_on : SiftsNext passes net sets rate budget (filled forced p) before now (Ok None) → NarrowVainly passes net sets rate base forced now.tried after.last
    narrow_on t listing narrow n = (
      subst (λ (l : Last). GivenUpTo narrow now.tried l) (sym (ap (λ (g : Given). g.last) gives.1))
          (subst (λ (k : ℕ). GivenUpTo narrow k (UpTo p)) (sym t.1.one_more) (p, here listing narrow n, refl)),
      λ other r less at accepted. ⊎_elim
          (λ (early : other < suc before.tried). (vainly listing narrow n).1 other r early at accepted)
          (λ (last : other ≡ suc before.tried).
          let i : at.0 ≡ before.tried = (let e = at.1 in omega arith) in
          let e : r ≡ p = same_Some r p (sym at.2 ∙ (ap (slice_get narrow) i ∙ here listing narrow n)) in
          t.1.not_accepted (subst (λ (x : Pattern). IsAccepted passes net sets rate (filled forced x)) e accepted))
          (before_or_at other (suc before.tried) (let e = t.1.one_more in omega arith)),
    )
