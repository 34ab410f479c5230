-- Families of freely combinable states, no pattern in two of them, and how many of their assignments come before a pattern.
use Rattle.std.proofs.Common.{◌≡◌, ◌≢◌, ◌⊎◌, inl, inr, ℕ, zero, suc, ◌+◌, ◌<◌, ◌≤◌, min, true, List, [], ◌∷◌, length, refl, sym, ap, subst, ◌∙◌, arith}
use Rattle.std.proofs.Common.{Option, Some, None, slice_get, slice_set, map}
use Rattle.nf_thin_rank.proofs.Common.{none-some, same_Some, slice_get_within, State, Tight, Full, Zero, Network, hops, unbounded, Sets, Pattern, HasState}
use Rattle.nf_thin_rank.proofs.Common.{IsPattern, IsListedIn, rank, Choices, IsIn, AreIn, if_allowed, choices_by, firm_before, AllAscend, IsListingOf, Firm}
use Rattle.nf_thin_rank.proofs.Common.{most, MayKeep, AreKeepers, AreFirmBy, CountsOther, IsByOther, CountsBefore, question_of, hops_length}
use Rattle.std.proofs.Math.ListN.{length-set}
use Rattle.nf_thin_laws.proofs.FirmListed.{firm_listed, all_ascend, in_allowed}
use Rattle.nf_pattern.proofs.Setting.{set_same, set_other, tell}
use Rattle.nf_thin_narrow.specs.Firming.{states_of_firm, firm_choices}
use Rattle.nf_thin_rank.proofs.Members.{members, members_sum, members_few, in_family, told_in, members_before}

-- ---- the states of one link
module _ (b : State) (f : Firm) (s : Option State) where
  one_of : IsIn (states_of_firm (Some b) f) s → ((f.tight ≡ true) × (s ≡ Some Tight)) ⊎ (((f.full ≡ true) × (s ≡ Some Full)) ⊎ ((f.zero ≡ true) × (s ≡ Some Zero)))
  one_of h = first (in_allowed f.tight Tight (if_allowed f.full Full (if_allowed f.zero Zero [])) s h)
    where
      third : ((f.zero ≡ true) × (s ≡ Some Zero)) ⊎ IsIn [] s → (f.zero ≡ true) × (s ≡ Some Zero)
      third (inl w) = w
      third (inr nothing) = absurd nothing

      second : ((f.full ≡ true) × (s ≡ Some Full)) ⊎ IsIn (if_allowed f.zero Zero []) s → ((f.full ≡ true) × (s ≡ Some Full)) ⊎ ((f.zero ≡ true) × (s ≡ Some Zero))
      second (inl w) = inl w
      second (inr more) = inr (third (in_allowed f.zero Zero [] s more))

      first : ((f.tight ≡ true) × (s ≡ Some Tight)) ⊎ IsIn (if_allowed f.full Full (if_allowed f.zero Zero [])) s
          → ((f.tight ≡ true) × (s ≡ Some Tight)) ⊎ (((f.full ≡ true) × (s ≡ Some Full)) ⊎ ((f.zero ≡ true) × (s ≡ Some Zero)))
      first (inl w) = inl w
      first (inr more) = inr (second (in_allowed f.full Full (if_allowed f.zero Zero []) s more))

  may_be_zero : s ≡ Some Zero → IsIn (states_of_firm (Some b) f) s → f.zero ≡ true
  may_be_zero is h = go (one_of h)
    where
      go : ((f.tight ≡ true) × (s ≡ Some Tight)) ⊎ (((f.full ≡ true) × (s ≡ Some Full)) ⊎ ((f.zero ≡ true) × (s ≡ Some Zero))) → f.zero ≡ true
      go (inl w) = absurd (let e = ap rank (sym is ∙ w.1) in omega arith)
      go (inr (inl w)) = absurd (let e = ap rank (sym is ∙ w.1) in omega arith)
      go (inr (inr w)) = w.0

  only_zero : (f.tight ≡ true → ⊥) → (f.full ≡ true → ⊥) → IsIn (states_of_firm (Some b) f) s → s ≡ Some Zero
  only_zero no_tight no_full h = go (one_of h)
    where
      go : ((f.tight ≡ true) × (s ≡ Some Tight)) ⊎ (((f.full ≡ true) × (s ≡ Some Full)) ⊎ ((f.zero ≡ true) × (s ≡ Some Zero))) → s ≡ Some Zero
      go (inl w) = absurd (no_tight w.0)
      go (inr (inl w)) = absurd (no_full w.0)
      go (inr (inr w)) = w.1

zero_by : (b : Option State) (f : Firm) (s : Option State) → s ≡ Some Zero → IsIn (states_of_firm b f) s → f.zero ≡ true
zero_by None f s is (inl none) = absurd (none-some Zero (sym none ∙ is))
zero_by None f s is (inr nothing) = absurd nothing
zero_by (Some b) f s is h = may_be_zero b f s is h

-- A link that may not be Zero is not Zero in an assignment of the family.
shun : (base : Pattern) (firm : List Firm) (r : Pattern) (e : ℕ) → AreIn (firm_choices base firm) r → ((f : Firm) → slice_get firm e ≡ Some f → f.zero ≡ true → ⊥) → HasState r e Zero → ⊥
shun base firm [] e h never at = none-some (Some Zero) at
shun [] firm (s ∷ r) e h never at = absurd h
shun (b ∷ base) [] (s ∷ r) e h never at = absurd h
shun (b ∷ base) (f ∷ firm) (s ∷ r) zero h never at = never f refl (zero_by b f s (same_Some s (Some Zero) at) h.0)
shun (b ∷ base) (f ∷ firm) (s ∷ r) (suc e) h never at = shun base firm r e h.1 never at

-- A link that may only be Zero is Zero in each assignment of the family.
only_so : (base : Pattern) (firm : List Firm) (r : Pattern) (e : ℕ) (b : State) (f : Firm) → AreIn (firm_choices base firm) r → HasState base e b → slice_get firm e ≡ Some f
    → (f.tight ≡ true → ⊥) → (f.full ≡ true → ⊥) → HasState r e Zero
only_so [] firm r e b f h at_b at_f no_tight no_full = absurd (none-some (Some b) at_b)
only_so (a ∷ base) [] r e b f h at_b at_f no_tight no_full = absurd (none-some f at_f)
only_so (a ∷ base) (g ∷ firm) [] e b f h at_b at_f no_tight no_full = absurd h
only_so (a ∷ base) (g ∷ firm) (s ∷ r) zero b f h at_b at_f no_tight no_full =
    let is_f : g ≡ f = same_Some g f at_f in
    let there : IsIn (states_of_firm (Some b) f) s =
    subst (λ (x : Firm). IsIn (states_of_firm (Some b) x) s) is_f (subst (λ (x : Option State). IsIn (states_of_firm x g) s) (same_Some a (Some b) at_b) h.0) in
    ap (λ (x : Option State). Some x) (only_zero b f s no_tight no_full there)
only_so (a ∷ base) (g ∷ firm) (s ∷ r) (suc e) b f h at_b at_f no_tight no_full = only_so base firm r e b f h.1 at_b at_f no_tight no_full

pub choices_are : (base : Pattern) (firm : List Firm) → firm_choices base firm ≡ choices_by base (map (λ f. f.tight) firm) (map (λ f. f.full) firm) (map (λ f. f.zero) firm)
choices_are [] firm = refl
choices_are (b ∷ base) [] = refl
choices_are (b ∷ base) (f ∷ firm) = ap (λ (x : Choices). states_of_firm b f ∷ x) (choices_are base firm)

-- ---- the keepers with another one for a node
pub other_keeps : (net : Network) (sets : Sets) (listed : Pattern) (n node other : ℕ) (keepers : List (Option ℕ)) → AreKeepers net sets listed n keepers
    → node < net.nodes → MayKeep net sets listed other node
    → AreKeepers net sets listed n (slice_set keepers node (Some other))
other_keeps net sets listed n node other keepers are within may = record {
  count = length-set keepers node (Some other) ∙ are.count;
  keeps = λ v e at. keeps v e at (tell v node);
  there = λ v e less may_v at. none v e less may_v at (tell v node);
}
  where
    itself : slice_get (slice_set keepers node (Some other)) node ≡ Some (Some other)
    itself = set_same keepers node (Some other) (let c = are.count in omega arith)

    keeps : (v e : ℕ) → slice_get (slice_set keepers node (Some other)) v ≡ Some (Some e) → (v ≡ node) ⊎ (v ≢ node) → MayKeep net sets listed e v
    keeps v e at (inl same) =
        let both : Some other ≡ Some e = same_Some (Some other) (Some e) (sym itself ∙ (ap (slice_get (slice_set keepers node (Some other))) (sym same) ∙ at)) in
        subst (λ (x : ℕ). MayKeep net sets listed e x) (sym same) (subst (λ (x : ℕ). MayKeep net sets listed x node) (same_Some other e both) may)
    keeps v e at (inr apart) = are.keeps v e (sym (set_other keepers node v (Some other) apart) ∙ at)

    none : (v e : ℕ) → e < n → MayKeep net sets listed e v → slice_get (slice_set keepers node (Some other)) v ≡ Some None → (v ≡ node) ⊎ (v ≢ node) → ⊥
    none v e less may_v at (inl same) = none-some other (sym (same_Some (Some other) None (sym itself ∙ (ap (slice_get (slice_set keepers node (Some other))) (sym same) ∙ at))))
    none v e less may_v at (inr apart) = are.there v e less may_v (sym (set_other keepers node v (Some other) apart) ∙ at)

-- A keeper is a link of the network.
pub keeper_within : (net : Network) (sets : Sets) (listed : Pattern) (n v e : ℕ) (keepers : List (Option ℕ)) → AreKeepers net sets listed n keepers
    → slice_get keepers v ≡ Some (Some e) → e < length net.links
keeper_within net sets listed n v e keepers are at =
    let w = are.keeps v e at in let l = slice_get_within (hops net) e w.0 w.1 in let c = hops_length net in omega arith

-- ---- all families so far
-- `has` is 1 for the patterns of the families. The keepers of nodes from n on are not Zero in them.
pub record Covers (net : Network) (sets : Sets) (base pattern : Pattern) (keepers : List (Option ℕ)) (n ways : ℕ) : Type 0 where
  pub has : Pattern → ℕ
  pub once : (r : Pattern) → has r ≤ 1
  pub shuns : (r : Pattern) (v e : ℕ) → 0 < has r → n ≤ v → slice_get keepers v ≡ Some (Some e) → HasState r e Zero → ⊥
  pub counted : (listing : List Pattern) (j : ℕ) → IsListingOf (question_of net sets base) listing → slice_get listing j ≡ Some pattern → ways ≤ members has listing j

none_or_some : (n : ℕ) → (n ≡ 0) ⊎ (0 < n)
none_or_some n = grind arith

module _ (net : Network) (sets : Sets) (base pattern listed : Pattern) (is_base : IsPattern sets (unbounded net) base) (is_listed : IsListedIn net sets listed) where
  -- one family
  module _ (keepers : List (Option ℕ)) (out : ℕ) (firm : List Firm) (are : AreFirmBy net sets listed keepers out firm) where
    all : (q : Pattern) → AreIn (firm_choices base firm) q → IsListedIn net sets q
    all q in_q = firm_listed net.nodes net.source (hops net) sets (unbounded net) base listed (map (λ f. f.tight) firm) (map (λ f. f.full) firm)
        (map (λ f. f.zero) firm) is_base is_listed are.have q
        (subst (λ (c : Choices). AreIn c q) (choices_are base firm) in_q)

    up : AllAscend (firm_choices base firm)
    up = subst AllAscend (sym (choices_are base firm)) (all_ascend base (map (λ f. f.tight) firm) (map (λ f. f.full) firm) (map (λ f. f.zero) firm))

    counted_by : (ways : ℕ) → ways ≡ min (firm_before (firm_choices base firm) base pattern) most → (listing : List Pattern) (j : ℕ) → IsListingOf (question_of net sets base) listing
        → slice_get listing j ≡ Some pattern → ways ≤ members (in_family (firm_choices base firm)) listing j
    counted_by ways is listing j listing_is at =
        let h = members_before net.nodes net.source (hops net) sets (unbounded net) base (firm_choices base firm) listing listing_is all up is_base.count pattern j at in omega arith

    once_in : (r : Pattern) → in_family (firm_choices base firm) r ≤ 1
    once_in r = go (told_in (firm_choices base firm) r)
      where
        go : (AreIn (firm_choices base firm) r × (in_family (firm_choices base firm) r ≡ 1)) ⊎ (in_family (firm_choices base firm) r ≡ 0) → in_family (firm_choices base firm) r ≤ 1
        go (inl w) = let e = w.1 in omega arith
        go (inr e) = omega arith

    there_in : (r : Pattern) → 0 < in_family (firm_choices base firm) r → AreIn (firm_choices base firm) r
    there_in r some = go (told_in (firm_choices base firm) r)
      where
        go : (AreIn (firm_choices base firm) r × (in_family (firm_choices base firm) r ≡ 1)) ⊎ (in_family (firm_choices base firm) r ≡ 0) → AreIn (firm_choices base firm) r
        go (inl w) = w.0
        go (inr e) = absurd (omega arith)

    shuns_by : (r : Pattern) (v e : ℕ) → 0 < in_family (firm_choices base firm) r → slice_get keepers v ≡ Some (Some e) → HasState r e Zero → ⊥
    shuns_by r v e some at zeroed = shun base firm r e (there_in r some) (λ f at_f set. are.kept v e f at at_f set) zeroed

    pub first_covers : (ways : ℕ) → ways ≡ min (firm_before (firm_choices base firm) base pattern) most → Covers net sets base pattern keepers 0 ways
    first_covers ways is = record {
      has = in_family (firm_choices base firm);
      once = once_in;
      shuns = λ r v e some from at zeroed. shuns_by r v e some at zeroed;
      counted = counted_by ways is;
    }

  -- one family more
  module _ (keepers : List (Option ℕ)) (n ways : ℕ) (old : Covers net sets base pattern keepers n ways) where
    add : (more after : ℕ) → CountsOther net sets base pattern listed keepers n more → after ≡ min (ways + more) most → Covers net sets base pattern keepers (n + 1) after
    add more after w is = record {
      has = λ r. old.has r + in_family (firm_choices base w.firm) r;
      once = λ r. one_at_most r (told_in (firm_choices base w.firm) r) (none_or_some (old.has r));
      shuns = λ r v e some from at zeroed. shuns_all r v e some from at zeroed (none_or_some (old.has r));
      counted = λ listing j listing_is at.
          let a = old.counted listing j listing_is at in
          let b = counted_by (slice_set keepers n (Some w.spare.other)) w.spare.keeper w.firm w.are more w.ways_is listing j listing_is at in
          let s = members_sum old.has (in_family (firm_choices base w.firm)) listing j in omega arith;
    }
      where
        zeroed_in : (r : Pattern) → AreIn (firm_choices base w.firm) r → HasState r w.spare.keeper Zero
        zeroed_in r in_r = let o = w.are.only w.is_spare.within in only_so base w.firm r w.spare.keeper w.is_spare.state o.0 in_r w.is_spare.stated o.1 o.2 o.3

        one_at_most : (r : Pattern) → (AreIn (firm_choices base w.firm) r × (in_family (firm_choices base w.firm) r ≡ 1)) ⊎ (in_family
            (firm_choices base w.firm) r ≡ 0) → (old.has r ≡ 0) ⊎ (0 < old.has r)
            → old.has r + in_family (firm_choices base w.firm) r ≤ 1
        one_at_most r (inr none) h = let o = old.once r in omega arith
        one_at_most r (inl in_r) (inl none) = let o = in_r.1 in omega arith
        one_at_most r (inl in_r) (inr some) = absurd (old.shuns r n w.spare.keeper some (omega arith) w.is_spare.keeps (zeroed_in r in_r.0))

        shuns_all : (r : Pattern) (v e : ℕ) → 0 < old.has r + in_family (firm_choices base w.firm) r → n + 1 ≤ v → slice_get keepers v ≡ Some (Some e)
            → HasState r e Zero → (old.has r ≡ 0) ⊎ (0 < old.has r) → ⊥
        shuns_all r v e some from at zeroed (inr before) = old.shuns r v e before (omega arith) at zeroed
        shuns_all r v e some from at zeroed (inl none) =
            shuns_by (slice_set keepers n (Some w.spare.other)) w.spare.keeper w.firm w.are r v e (omega arith)
            (set_other keepers n v (Some w.spare.other) (λ same. omega arith) ∙ at) zeroed

    pub covers_more : (more after : ℕ) → IsByOther net sets base pattern listed keepers n more → after ≡ min (ways + more) most → Covers net sets base pattern keepers (n + 1) after
    covers_more more after (inl none) is = record {
      has = old.has;
      once = old.once;
      shuns = λ r v e some from at zeroed. old.shuns r v e some (omega arith) at zeroed;
      counted = λ listing j listing_is at. let a = old.counted listing j listing_is at in omega arith;
    }
    covers_more more after (inr w) is = add more after w is

    pub covers_before : CountsBefore (question_of net sets base) pattern ways
    covers_before listing place listing_is at =
        let a = old.counted listing at.0 listing_is at.2 in
        let f = members_few old.has old.once listing at.0 in
        let e = at.1 in omega arith
