-- The next assignment with equally many changes that differs at one of the first links: it is later, and nothing is between.
use Rattle.std.proofs.Common.{◌≡◌, ◌⊎◌, ℕ, zero, suc, take, ◌+◌, ◌-◌, ◌<◌, ◌≤◌, Bool, true, List, [], ◌∷◌, inl, inr, ⊎_elim, refl, sym, ap, subst, ◌∙◌}
use Rattle.std.proofs.Common.{arith, Option, Some, None}
use Rattle.nf_pattern.proofs.Common.{State, Pattern, rank, changes, IsEarlier, changes_first, choices, IsAssignment, Spares, free, change, first_good}
use Rattle.nf_pattern.proofs.Common.{before_all, earliest, may_raise, raised, later}
use Rattle.nf_pattern.proofs.Successors.{compared, good_some, good_none, choices_ascend, fits_out, within, rest_given, rest_none, earliest_is, earliest_first}
use Rattle.nf_pattern.proofs.Successors.{earliest_exists, else_given, else_none, before_given, before_none, higher, higher_in, higher_out}

module _ (b : Option State) (u z : Bool) (base : Pattern) (us zs : List Bool) (a : Option State) (p : Pattern) where
  abbrev pub n : ℕ
  n = changes (b ∷ base) (a ∷ p)

  abbrev pub Raised : Pattern → Type 0
  Raised q =
      (s : Option State) × (states : Pattern) × (first_good (higher b z a n (free base)) (choices b u) ≡ Some s)
      × (earliest base us (n - change b s) ≡ Some states) × (q ≡ s ∷ states)

  raised_parts : (q : Pattern) → raised b u z base us a n ≡ Some q → Raised q
  raised_parts q e = rest_given (first_good (higher b z a n (free base)) (choices b u)) (λ s. earliest base us (n - change b s)) q e

  abbrev pub Kept : ℕ → Pattern → Type 0
  Kept i q = (states : Pattern) × (later i base us zs p ≡ Some states) × (q ≡ a ∷ states)

  -- The later links advance; if they cannot, the first link does.
  parts : (i : ℕ) (q : Pattern) → later (suc i) (b ∷ base) (u ∷ us) (z ∷ zs) (a ∷ p) ≡ Some q → Kept i q ⊎ ((later i base us zs p ≡ None) × Raised q)
  parts i q e = ⊎_elim
      (λ (w : before_all a (later i base us zs p) ≡ Some q). inl (before_given a (later i base us zs p) q w))
      (λ (w : (before_all a (later i base us zs p) ≡ None) × (raised b u z base us a n ≡ Some q)). inr (before_none a (later i base us zs p) w.0, raised_parts q w.1))
      (else_given (before_all a (later i base us zs p)) (raised b u z base us a n) q e)

  -- with the first link raised
  raised_is : (q : Pattern) → IsAssignment base us base → Raised q → IsAssignment (b ∷ base) (u ∷ us) q × (changes (b ∷ base) q ≡ n) × IsEarlier (a ∷ p) q
  raised_is q v w =
      let good = good_some (higher b z a n (free base)) (choices b u) w.0 w.2 in
      let high = higher_out b z a w.0 n (free base) good.1 in
      let fit = fits_out b w.0 n (free base) high.1 in
      let rest = earliest_is base us (n - change b w.0) w.1 v w.3 in
      let first = changes_first b w.0 base w.1 in
      let same : changes base w.1 ≡ n - change b w.0 = rest.1 in
      let le : change b w.0 ≤ n = fit.0 in
      let all : changes (b ∷ base) (w.0 ∷ w.1) ≡ n = omega arith in
      let less : IsEarlier (a ∷ p) (w.0 ∷ w.1) = inl high.0 in (
        subst (λ (x : Pattern). IsAssignment (b ∷ base) (u ∷ us) x) (sym w.4) (good.0, rest.0),
        ap (changes (b ∷ base)) w.4
            ∙ all,
        subst (λ (x : Pattern). IsEarlier (a ∷ p) x) (sym w.4) less,
      )

  raised_next : (q : Pattern) (t : Option State) (r : Pattern) → Raised q → IsAssignment (b ∷ base) (u ∷ us) (t ∷ r) → changes (b ∷ base) (t ∷ r) ≡ n
      → may_raise z t ≡ true → rank a < rank t → IsEarlier (t ∷ r) q → ⊥
  raised_next q t r w h c may less before =
      let fit = within b u base us n t r h.1 c in
      go w.0 w.1 w.2 w.3 (subst (λ (x : Pattern). IsEarlier (t ∷ r) x) w.4 before)
      (compared (higher b z a n (free base)) (choices b u) w.0 t (choices_ascend b u) w.2 h.0 (higher_in b z a t n (free base) may less fit.0))
      fit.1
    where
      go : (s : Option State) (states : Pattern) → first_good (higher b z a n (free base)) (choices b u) ≡ Some s → earliest base us (n - change b s) ≡ Some states
          → IsEarlier (t ∷ r) (s ∷ states) → (t ≡ s) ⊎ (rank s < rank t) → changes base r ≡ n - change b t → ⊥
      go s states f e (inl k) (inl same) d = let i : rank t ≡ rank s = ap rank same in omega arith
      go s states f e (inl k) (inr more) d = omega arith
      go s states f e (inr k) (inl same) d = earliest_first base us (n - change b s) states r e h.1 (d ∙ ap (λ (x : Option State). n - change b x) same) k.1
      go s states f e (inr k) (inr more) d = let i : rank t ≡ rank s = ap rank k.0 in omega arith

  raised_none : (t : Option State) (r : Pattern) → IsAssignment base us base → raised b u z base us a n ≡ None → IsAssignment (b ∷ base) (u ∷ us) (t ∷ r)
      → changes (b ∷ base) (t ∷ r) ≡ n → may_raise z t ≡ true → rank a < rank t → ⊥
  raised_none t r v e h c may less =
      let fit = within b u base us n t r h.1 c in
      ⊎_elim
      (λ (w : first_good (higher b z a n (free base)) (choices b u) ≡ None). good_none (higher b z a n (free base)) (choices b u) t w h.0
      (higher_in b z a t n (free base) may less fit.0))
      (λ (w : (s : Option State) × (first_good (higher b z a n (free base)) (choices b u) ≡ Some s) × (earliest base us (n - change b s) ≡ None)).
      let good = good_some (higher b z a n (free base)) (choices b u) w.0 w.1 in
      let high = higher_out b z a w.0 n (free base) good.1 in
      let f = fits_out b w.0 n (free base) high.1 in
      let le : change b w.0 ≤ n = f.0 in let few : n ≤ change b w.0 + free base = f.1 in
      earliest_exists base us (n - change b w.0) v (omega arith) w.2)
      (rest_none (first_good (higher b z a n (free base)) (choices b u)) (λ s. earliest base us (n - change b s)) e)

  same_rest : (t : Option State) (r : Pattern) → changes (b ∷ base) (t ∷ r) ≡ n → a ≡ t → changes base r ≡ changes base p
  same_rest t r c same =
      let f = changes_first b t base r in
      let g = changes_first b a base p in
      let one : change b a ≡ change b t = ap (change b) same in omega arith

-- an assignment, with as many changes, and later
pub later_is : (i : ℕ) (base : Pattern) (us zs : List Bool) (p q : Pattern) → IsAssignment base us base → IsAssignment base us p → later i base us zs p ≡ Some q
    → IsAssignment base us q × (changes base q ≡ changes base p) × IsEarlier p q
later_is zero base us zs p q v h e = absurd (cc)
later_is (suc i) [] us zs p q v h e = absurd (cc)
later_is (suc i) (b ∷ base) [] zs p q v h e = absurd (cc)
later_is (suc i) (b ∷ base) (u ∷ us) [] p q v h e = absurd (cc)
later_is (suc i) (b ∷ base) (u ∷ us) (z ∷ zs) [] q v h e = absurd (cc)
later_is (suc i) (b ∷ base) (u ∷ us) (z ∷ zs) (a ∷ p) q v h e = ⊎_elim
    (λ (w : Kept b u z base us zs a p i q).
    let rest = later_is i base us zs p w.0 v.1 h.1 w.1 in
    let f = changes_first b a base w.0 in let g = changes_first b a base p in let same : changes base w.0 ≡ changes base p = rest.1 in
    let all : changes (b ∷ base) (a ∷ w.0) ≡ changes (b ∷ base) (a ∷ p) = omega arith in
    let less : IsEarlier (a ∷ p) (a ∷ w.0) = inr (refl, rest.2) in
    (subst (λ (x : Pattern). IsAssignment (b ∷ base) (u ∷ us) x) (sym w.2) (h.0, rest.0), ap (changes (b ∷ base)) w.2 ∙ all, subst (λ (x : Pattern). IsEarlier (a ∷ p) x) (sym w.2) less))
    (λ (w : (later i base us zs p ≡ None) × Raised b u z base us zs a p q). raised_is b u z base us zs a p q v.1 w.1)
    (parts b u z base us zs a p i q e)

same_front : (i : ℕ) (a t : Option State) (p r : Pattern) → a ≡ t → take i r ≡ take i p → take (suc i) (t ∷ r) ≡ take (suc i) (a ∷ p)
same_front i a t p r e f = ap (λ (x : Option State). x ∷ take i r) (sym e) ∙ ap (λ (x : Pattern). a ∷ x) f

-- If there is none, only assignments with the same first states are later, of those in which no flagged link is Zero.
pub later_none : (i : ℕ) (base : Pattern) (us zs : List Bool) (p r : Pattern) → IsAssignment base us base → later i base us zs p ≡ None
    → IsAssignment base us r → Spares zs r → changes base r ≡ changes base p
    → IsEarlier p r → take i r ≡ take i p
later_none zero base us zs p r v e h sp c before = refl
later_none (suc i) base us zs [] r v e h sp c before = absurd before
later_none (suc i) base us zs (a ∷ p) [] v e h sp c before = absurd before
later_none (suc i) [] us zs (a ∷ p) (t ∷ r) v e h sp c before = absurd (nothing us t r h)
  where
    nothing : (us : List Bool) (t : Option State) (r : Pattern) → IsAssignment [] us (t ∷ r) → ⊥
    nothing [] t r h = h
    nothing (u ∷ us) t r h = h
later_none (suc i) (b ∷ base) [] zs (a ∷ p) (t ∷ r) v e h sp c before = absurd h
later_none (suc i) (b ∷ base) (u ∷ us) [] (a ∷ p) (t ∷ r) v e h sp c before = absurd sp
later_none (suc i) (b ∷ base) (u ∷ us) (z ∷ zs) (a ∷ p) (t ∷ r) v e h sp c (inl less) =
    absurd (raised_none b u z base us zs a p t r v.1 (else_none (before_all a (later i base us zs p))
    (raised b u z base us a (changes (b ∷ base) (a ∷ p))) e).1 h c sp.0 less)
later_none (suc i) (b ∷ base) (u ∷ us) (z ∷ zs) (a ∷ p) (t ∷ r) v e h sp c (inr k) = same_front i a t p r k.0
    (later_none i base us zs p r v.1 (before_none a (later i base us zs p)
    (else_none (before_all a (later i base us zs p)) (raised b u z base us a (changes (b ∷ base) (a ∷ p))) e).0) h.1 sp.1
    (same_rest b u z base us zs a p t r c k.0) k.1)

-- No other such assignment is between.
pub later_next : (i : ℕ) (base : Pattern) (us zs : List Bool) (p q r : Pattern) → IsAssignment base us base → later i base us zs p ≡ Some q
    → IsAssignment base us r → Spares zs r → changes base r ≡ changes base p
    → IsEarlier p r → IsEarlier r q → take i r ≡ take i p
later_next zero base us zs p q r v e h sp c before after = refl
later_next (suc i) [] us zs p q r v e h sp c before after = absurd (cc)
later_next (suc i) (b ∷ base) [] zs p q r v e h sp c before after = absurd (cc)
later_next (suc i) (b ∷ base) (u ∷ us) [] p q r v e h sp c before after = absurd (cc)
later_next (suc i) (b ∷ base) (u ∷ us) (z ∷ zs) [] q r v e h sp c before after = absurd (cc)
later_next (suc i) (b ∷ base) (u ∷ us) (z ∷ zs) (a ∷ p) q [] v e h sp c before after = absurd before
later_next (suc i) (b ∷ base) (u ∷ us) (z ∷ zs) (a ∷ p) q (t ∷ r) v e h sp c (inl less) after = absurd (⊎_elim
    (λ (w : Kept b u z base us zs a p i q). go w.0 (subst (λ (x : Pattern). IsEarlier (t ∷ r) x) w.2 after))
    (λ (w : (later i base us zs p ≡ None) × Raised b u z base us zs a p q). raised_next b u z base us zs a p q t r w.1 h c sp.0 less after)
    (parts b u z base us zs a p i q e))
  where
    go : (states : Pattern) → IsEarlier (t ∷ r) (a ∷ states) → ⊥
    go states (inl k) = omega arith
    go states (inr k) = let f : rank t ≡ rank a = ap rank k.0 in omega arith
later_next (suc i) (b ∷ base) (u ∷ us) (z ∷ zs) (a ∷ p) q (t ∷ r) v e h sp c (inr k) after = same_front i a t p r k.0 (⊎_elim
    (λ (w : Kept b u z base us zs a p i q). later_next i base us zs p w.0 r v.1 w.1 h.1 sp.1 (same_rest b u z base us zs a p t r c k.0) k.1
    (after_rest w.0 (subst (λ (x : Pattern). IsEarlier (t ∷ r) x) w.2 after)))
    (λ (w : (later i base us zs p ≡ None) × Raised b u z base us zs a p q). later_none i base us zs p r v.1 w.0 h.1 sp.1 (same_rest b u z base us zs a p t r c k.0) k.1)
    (parts b u z base us zs a p i q e))
  where
    after_rest : (states : Pattern) → IsEarlier (t ∷ r) (a ∷ states) → IsEarlier r states
    after_rest states (inl l) = let f : rank a ≡ rank t = ap rank k.0 in absurd (omega arith)
    after_rest states (inr l) = l.1
