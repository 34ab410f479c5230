-- A search among patterns with forced states, and the search among all.
use Rattle.std.proofs.Common.{◌≡◌, ◌⊎◌, inl, inr, ℕ, zero, suc, ◌+◌, ◌<◌, ◌≤◌, List, length, refl, sym, ap, subst, ◌∙◌, arith, Some, slice_get, Bool}
use Rattle.nf_thin_laws.proofs.Common.{same_Some, slice_get_within, ℚ, Passing, Network, hops, unbounded, Sets, Pattern, IsPattern, IsListed, IsListedIn}
use Rattle.nf_thin_laws.proofs.Common.{IsBefore, changes, IsAccepted, HasPlace, NoneAcceptedBefore, NoneAccepted, IsOverBudget, entry, compared}
use Rattle.nf_thin_laws.proofs.Common.{unforced_of, filled, sets_left, IsForcing, HasForced, forced_changes, Narrows, NoneFilledBefore}
use Rattle.nf_thin_laws.proofs.Listings.{IsBefore-asymmetric}
use Rattle.nf_thin_laws.proofs.Forced.{unforced_of-filled, filled-unforced_of, same_count, left_count, filled_pattern, has_forced, left_bare, left_listed}
use Rattle.nf_thin_laws.proofs.Forced.{filled_listed}
use Rattle.nf_thin_laws.proofs.ForcedOrder.{changes_split, before_left, before_put}

module _ (sets : Sets) (unbounded : List Bool) (forced base p : Pattern) (is : IsForcing sets unbounded forced) (b : IsPattern sets unbounded base)
    (pattern : IsPattern (sets_left forced sets) unbounded p) where
  pub taken_out : unforced_of forced (filled forced p) ≡ p
  taken_out = unforced_of-filled forced p (left_count sets unbounded forced is p pattern) (left_bare sets unbounded forced is p pattern)

  pub filled_count : length (filled forced p) ≡ length sets.active
  filled_count = (filled_pattern sets unbounded forced is p pattern).count

  pub has_it : HasForced forced (filled forced p)
  has_it = has_forced sets unbounded forced is p (left_count sets unbounded forced is p pattern)

  pub more_changes : changes base (filled forced p) ≡ forced_changes forced base + changes (unforced_of forced base) p
  more_changes = changes_split forced base (filled forced p) (is.count ∙ sym filled_count) (b.count ∙ sym filled_count) has_it
      ∙ ap (λ (x : Pattern). forced_changes forced base + changes (unforced_of forced base) x) taken_out

module _ (sets : Sets) (unbounded : List Bool) (forced base p q : Pattern) (is : IsForcing sets unbounded forced) (b : IsPattern sets unbounded base)
    (one : IsPattern (sets_left forced sets) unbounded p) (other : IsPattern (sets_left forced sets) unbounded q) where
  count_p : length (filled forced p) ≡ length sets.active
  count_p = filled_count sets unbounded forced base p is b one

  count_q : length (filled forced q) ≡ length sets.active
  count_q = filled_count sets unbounded forced base q is b other

  abbrev Left : Pattern → Pattern → Type 0
  Left x y = IsBefore (unforced_of forced base) x y

  same_left : (x y : Pattern) → unforced_of forced (filled forced p) ≡ x → unforced_of forced (filled forced q) ≡ y
      → Left (unforced_of forced (filled forced p)) (unforced_of forced (filled forced q)) → Left x y
  same_left x y e f less = subst (λ (z : Pattern). Left z y) e (subst (λ (z : Pattern). Left (unforced_of forced (filled forced p)) z) f less)

  pub order_put : Left p q → IsBefore base (filled forced p) (filled forced q)
  order_put less = before_put forced base (filled forced p) (filled forced q) (is.count ∙ sym count_p) (b.count ∙ sym count_p) (count_q ∙ sym count_p)
      (has_it sets unbounded forced base p is b one) (has_it sets unbounded forced base q is b other)
      (subst (λ (z : Pattern). Left z (unforced_of forced (filled forced q))) (sym (taken_out sets unbounded forced base p is b one))
      (subst (λ (z : Pattern). Left p z) (sym (taken_out sets unbounded forced base q is b other)) less))

  pub order_left : IsBefore base (filled forced p) (filled forced q) → Left p q
  order_left less = same_left p q (taken_out sets unbounded forced base p is b one) (taken_out sets unbounded forced base q is b other)
      (before_left forced base (filled forced p) (filled forced q) (is.count ∙ sym count_p) (b.count ∙ sym count_p) (count_q ∙ sym count_p)
      (has_it sets unbounded forced base p is b one) (has_it sets unbounded forced base q is b other) less)

module _ (passes : Passing) (net : Network) (sets : Sets) (rate : ℚ) (base forced : Pattern) (listing narrow : List Pattern) (n : Narrows net sets rate base forced listing narrow) where
  abbrev put_in : Pattern → Pattern
  put_in p = filled forced p

  in_listing : (i j : ℕ) (p r : Pattern) → i < j → slice_get listing i ≡ Some p → slice_get listing j ≡ Some r → IsBefore base p r
  in_listing i j p r less at_p at_r = n.whole.ordered (suc i) (suc j) p r (omega arith) (i, refl, at_p) (j, refl, at_r)

  listed_left : (i : ℕ) (p : Pattern) → slice_get narrow i ≡ Some p → IsListed net.nodes net.source (hops net) (sets_left forced sets) (unbounded net) p
  listed_left i p at = n.part.listed (suc i) p (i, refl, at)

  there : (i : ℕ) (p : Pattern) → slice_get narrow i ≡ Some p → (j : ℕ) × (slice_get listing j ≡ Some (put_in p))
  there i p at =
      let w = n.whole.whole (put_in p) (filled_listed sets (unbounded net) forced n.forcing net.nodes net.source (hops net) p (listed_left i p at)) in (w.1.0, w.1.2)

  in_order : (i j : ℕ) (p q : Pattern) → i < j → slice_get narrow i ≡ Some p → slice_get narrow j ≡ Some q → IsBefore base (put_in p) (put_in q)
  in_order i j p q less at_p at_q =
      order_put sets (unbounded net) forced base p q n.forcing n.starts (listed_left i p at_p).states (listed_left j q at_q).states
      (n.part.ordered (suc i) (suc j) p q (omega arith) (i, refl, at_p) (j, refl, at_q))

  back : (j : ℕ) (r : Pattern) → slice_get listing j ≡ Some r → IsAccepted passes net sets rate r → (i : ℕ) × (p : Pattern) × (slice_get narrow i ≡ Some p) × (put_in p ≡ r)
  back j r at accepted =
      let listed : IsListedIn net sets r = n.whole.listed (suc j) r (j, refl, at) in
      let has = n.allowed r listed accepted.solvable in
      let w = n.part.whole (unforced_of forced r) (left_listed sets (unbounded net) forced n.forcing net.nodes net.source (hops net) r listed has) in
      (w.1.0, unforced_of forced r, w.1.2, filled-unforced_of forced r (same_count sets (unbounded net) forced n.forcing r listed.states) has)

  not_itself : (p : Pattern) → IsBefore base p p → ⊥
  not_itself p less = IsBefore-asymmetric base p p less less

  -- A pattern before it has a lower rank.
  earlier_place : (i j : ℕ) (p r : Pattern) → IsBefore base p r → slice_get listing i ≡ Some p → slice_get listing j ≡ Some r → i < j
  earlier_place i j p r less at_p at_r = go (compared i j)
    where
      go : (i < j) ⊎ ((i ≡ j) ⊎ (j < i)) → i < j
      go (inl h) = h
      go (inr (inl same)) =
          let e : p ≡ r = same_Some p r (sym at_p ∙ (ap (slice_get listing) same ∙ at_r)) in absurd (not_itself r (subst (λ (x : Pattern). IsBefore base x r) e less))
      go (inr (inr more)) = absurd (IsBefore-asymmetric base p r less (in_listing j i r p more at_r at_p))

  no_earlier : (i j : ℕ) (p : Pattern) → slice_get narrow i ≡ Some p → slice_get listing j ≡ Some (put_in p) → i ≤ j
  no_earlier zero j p at_p at = omega arith
  no_earlier (suc i) j p at_p at =
      let w = entry narrow i (let l = slice_get_within narrow (suc i) p at_p in omega arith) in
      let t = there i w.0 w.1 in
      let le : i ≤ t.0 = no_earlier i t.0 w.0 w.1 t.1 in
      let less : t.0 < j = earlier_place t.0 j (put_in w.0) (put_in p) (in_order i (suc i) w.0 p (omega arith) w.1 at_p) t.1 at in
      omega arith

  pub found : (place : ℕ) (p : Pattern) → HasPlace narrow place p → IsAccepted passes net sets rate (put_in p) → NoneFilledBefore passes net sets rate forced narrow place
      → (there : ℕ) × (place ≤ there) × HasPlace listing there (put_in p) × NoneAcceptedBefore passes net sets rate listing there
  found place p at accepted none =
      let t = there at.0 p at.2 in (
        suc t.0,
        (let le = no_earlier at.0 t.0 p at.2 t.1 in let e = at.1 in omega arith),
        (t.0, refl, t.1),
        λ other r less at_r ok. let b = back at_r.0 r at_r.2 ok in
            go t.0 t.1 at_r.0 r at_r.2 (let e = at_r.1 in omega arith) b.0 b.1 b.2 b.3 (subst (λ (x : Pattern). IsAccepted passes net sets rate x) (sym b.3) ok) (compared b.0 at.0),
      )
    where
      go : (j : ℕ) → slice_get listing j ≡ Some (put_in p) → (k : ℕ) (r : Pattern) → slice_get listing k ≡ Some r → k < j
          → (i : ℕ) (q : Pattern) → slice_get narrow i ≡ Some q → put_in q ≡ r → IsAccepted passes net sets rate (put_in q) → (i < at.0) ⊎ ((i ≡ at.0) ⊎ (at.0 < i)) → ⊥
      go j at_j k r at_k less i q at_q same ok (inl h) = none (suc i) q (let e = at.1 in omega arith) (i, refl, at_q) ok
      go j at_j k r at_k less i q at_q same ok (inr (inl h)) =
          let e : q ≡ p = same_Some q p (sym at_q ∙ (ap (slice_get narrow) h ∙ at.2)) in
          let f : put_in p ≡ r = ap put_in (sym e) ∙ same in
          not_itself r (subst (λ (x : Pattern). IsBefore base r x) f (in_listing k j r (put_in p) less at_k at_j))
      go j at_j k r at_k less i q at_q same ok (inr (inr h)) =
          IsBefore-asymmetric base (put_in p) r (subst (λ (x : Pattern). IsBefore base (put_in p) x) same (in_order at.0 i p q h at.2 at_q)) (in_listing k j r (put_in p) less at_k at_j)

  pub no_earlier_place : (place there : ℕ) (p : Pattern) → HasPlace narrow place p → HasPlace listing there (put_in p) → place ≤ there
  no_earlier_place place there p at_p at = let le = no_earlier at_p.0 at.0 p at_p.2 at.2 in let e = at_p.1 in let d = at.1 in omega arith

  -- Patterns with the forced states put in have the order of the patterns left.
  no_later : (i j k l : ℕ) (p q : Pattern) → slice_get narrow i ≡ Some p → slice_get narrow k ≡ Some q
      → slice_get listing j ≡ Some (put_in p) → slice_get listing l ≡ Some (put_in q) → l < j → k < i
  no_later i j k l p q at_p at_q there_p there_q less = go (compared k i)
    where
      go : (k < i) ⊎ ((k ≡ i) ⊎ (i < k)) → k < i
      go (inl h) = h
      go (inr (inl same)) =
          let e : q ≡ p = same_Some q p (sym at_q ∙ (ap (slice_get narrow) same ∙ at_p)) in
          absurd (not_itself (put_in p) (in_listing l j (put_in p) (put_in p) less (subst (λ (x : Pattern). slice_get listing l ≡ Some (put_in x)) e there_q) there_p))
      go (inr (inr more)) =
          let h : j < l = earlier_place j l (put_in p) (put_in q) (in_order i k p q more at_p at_q) there_p there_q in absurd (omega arith)

  -- The rank of a pattern is beyond the budget, and no pattern before it is accepted.
  pub beyond : (budget place : ℕ) (p : Pattern) → HasPlace narrow place p → NoneFilledBefore passes net sets rate forced narrow place
      → ((other : ℕ) → HasPlace listing other (put_in p) → budget < other) → IsOverBudget passes net sets rate listing budget
  beyond budget place p at none more =
      let t = there at.0 p at.2 in
      let far : budget < suc t.0 = more (suc t.0) (t.0, refl, t.1) in
      record {
        longer = (let l = slice_get_within listing t.0 (put_in p) t.1 in omega arith);
        none_accepted = λ other r less at_r ok. (let b = back at_r.0 r at_r.2 ok in
            let earlier : b.0 < at.0 = no_later at.0 t.0 b.0 at_r.0 p b.1 at.2 b.2 t.1 (at_r.2 ∙ ap (λ (x : Pattern). Some x) (sym b.3)) (let e = at_r.1 in omega arith) in
            none (suc b.0) b.1 (let e = at.1 in omega arith) (b.0, refl, b.2) (subst (λ (x : Pattern). IsAccepted passes net sets rate x) (sym b.3) ok));
      }

  pub over : (budget : ℕ) → budget < length narrow → NoneFilledBefore passes net sets rate forced narrow (suc budget) → IsOverBudget passes net sets rate listing budget
  over budget longer none = record {
    longer = (let w = entry narrow budget longer in let t = there budget w.0 w.1 in let le = no_earlier budget t.0 w.0 w.1 t.1 in
        let l = slice_get_within listing t.0 (put_in w.0) t.1 in omega arith);
    none_accepted = λ other r less at ok. (let b = back at.0 r at.2 ok in
        let le : b.0 ≤ at.0 = no_earlier b.0 at.0 b.1 b.2 (at.2 ∙ ap (λ (x : Pattern). Some x) (sym b.3)) in
        none (suc b.0) b.1 (let e = at.1 in omega arith) (b.0, refl, b.2) (subst (λ (x : Pattern). IsAccepted passes net sets rate x) (sym b.3) ok));
  }

  pub none_at_all : ((place : ℕ) → NoneFilledBefore passes net sets rate forced narrow place) → NoneAccepted passes net sets rate listing
  none_at_all none other r at ok =
      let b = back at.0 r at.2 ok in
      none (suc (suc b.0)) (suc b.0) b.1 (omega arith) (b.0, refl, b.2) (subst (λ (x : Pattern). IsAccepted passes net sets rate x) (sym b.3) ok)
