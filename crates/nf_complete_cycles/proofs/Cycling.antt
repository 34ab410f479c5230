-- The first cycle of chosen links, link by link.
use Rattle.std.proofs.Common.{◌≡◌, ℕ, ◌+◌, ◌<◌, ◌≤◌, List, [], ◌∷◌, ◌++◌, length, ◌⊎◌, inl, inr, ⊎_elim, Bool, true, false, not, if◌then◌else◌, set}
use Rattle.std.proofs.Common.{replicate, Some, None, sym, ap, subst, refl, ◌∙◌, arith, ◌↔◌, Contains, nat_le, Result, Ok, Err, IfOk}
use Rattle.nf_complete_cycles.proofs.Common.{length-set, length-replicate, slice_get_within, none-some, same_Some, leb_tells, cases_lt, Has, Hop, IsHop}
use Rattle.nf_complete_cycles.proofs.Common.{IsTrail, AllDiffer, IsForest, Has-set_same, Has-set_other, Has-set_cases, Has-within, Has-replicate, links_of}
use Rattle.nf_complete_cycles.proofs.Common.{turn_of, IsWay, AreApart, IsClosedTrail, IsFirstCycle, round_onto, lower_step, lowest_from, contains_none}
use Rattle.nf_complete_cycles.proofs.Common.{contains_cases, contains_more, contains_first}
use Rattle.nf_thin_laws.proofs.Flags.{flag, flag-cases}
use Rattle.nf_complete_laws.proofs.ForestMore.{forest-more}
use Rattle.nf_complete_laws.proofs.OneCycle.{weaker}
use Rattle.nf_complete_cycles.proofs.Rounding.{round-trail, round-contains, contains-round, round-differ, round-turn, turn-same, turn-other}

-- ---- forests
pub forest-weaker : (hops : List Hop) (A B : ℕ → Type 0) → ((e : ℕ) → B e → A e) → IsForest hops A → IsForest hops B
forest-weaker hops A B f forest first rest v d t = forest first rest v d (weaker hops B A (first ∷ rest) v v t (λ e _ b. f e b))

flag_same : (flags : List Bool) (v w : ℕ) → Has flags v ↔ Has flags w → flag flags v ≡ flag flags w
flag_same flags v w h = ⊎_elim
    (λ (a : (flag flags v ≡ true) × Has flags v). ⊎_elim
    (λ (b : (flag flags w ≡ true) × Has flags w). a.0 ∙ sym b.0)
    (λ (b : (flag flags w ≡ false) × (Has flags w → ⊥)). absurd (b.1 (h.0 a.1)))
    (flag-cases flags w))
    (λ (a : (flag flags v ≡ false) × (Has flags v → ⊥)). ⊎_elim
    (λ (b : (flag flags w ≡ true) × Has flags w). absurd (a.1 (h.1 b.1)))
    (λ (b : (flag flags w ≡ false) × (Has flags w → ⊥)). a.0 ∙ sym b.0)
    (flag-cases flags w))
    (flag-cases flags v)

flag_other : (flags : List Bool) (v w : ℕ) → Has flags v → (Has flags w → ⊥) → flag flags v ≡ flag flags w → ⊥
flag_other flags v w h n e = ⊎_elim
    (λ (a : (flag flags v ≡ true) × Has flags v). ⊎_elim
    (λ (b : (flag flags w ≡ true) × Has flags w). n b.1)
    (λ (b : (flag flags w ≡ false) × (Has flags w → ⊥)). apart (sym a.0 ∙ e ∙ b.0))
    (flag-cases flags w))
    (λ (a : (flag flags v ≡ false) × (Has flags v → ⊥)). a.1 h)
    (flag-cases flags v)
  where
    apart : true ≡ false → ⊥
    apart q = cc

-- ---- links before a place
pub record AreBefore (hops : List Hop) (chosen : List Bool) (e : ℕ) (before : List Bool) : Type 0 where
  pub count : length before ≡ length hops
  pub flags : (k : ℕ) → Has before k ↔ ((k < e) × Has chosen k)
  pub forest : IsForest hops (Has before)

-- none is before the first
no_forest : (hops : List Hop) (before : List Bool) → ((k : ℕ) → Has before k → ⊥) → IsForest hops (Has before)
no_forest hops before none first rest v d (g, p, a, is, t) = none first.0 a

pub before_first : (hops : List Hop) (chosen before : List Bool) → before ≡ replicate (length hops) false → AreBefore hops chosen 0 before
before_first hops chosen before is =
    let none : (k : ℕ) → Has before k → ⊥ = λ k h. Has-replicate (length hops) k (subst (λ (f : List Bool). Has f k) is h) in
    record {
      count = ap length is ∙ length-replicate (length hops) false;
      flags = λ k. ((λ h. absurd (none k h)), (λ w. absurd (let l : k < 0 = w.0 in omega arith)));
      forest = no_forest hops before none;
    }

module _ (hops : List Hop) (chosen : List Bool) (e : ℕ) (before : List Bool) (b : AreBefore hops chosen e before) where
  pub before_same : (Has chosen e → ⊥) → AreBefore hops chosen (e + 1) before
  before_same n = record {
    count = b.count;
    flags = λ k. (
      (λ h. let w = (b.flags k).0 h in (below w.0, w.1)),
      (λ w. (b.flags k).1 (⊎_elim (λ (l : k < e). l) (λ (l : e ≤ k). absurd (n (subst (λ (i : ℕ). Has chosen i) (equal k w.0 l) w.1))) (cases_lt k e), w.1)),
    );
    forest = b.forest;
  }
    where
      below : {k : ℕ} → k < e → k < e + 1
      below h = omega arith

      equal : (k : ℕ) → k < e + 1 → e ≤ k → k ≡ e
      equal k h l = omega arith

  -- one link more
  module _ (hop : Hop) (i : ℕ) (q : i ≡ e) (p : IsHop hops e hop) (c : Has chosen e) where
    flags_more : (k : ℕ) → Has (set before i true) k ↔ ((k < e + 1) × Has chosen k)
    flags_more k = (
      (λ h. ⊎_elim (λ (s : k ≡ i). (at k (s ∙ q), subst (λ (j : ℕ). Has chosen j) (sym (s ∙ q)) c))
          (λ (s : Has before k). let w = (b.flags k).0 s in (below w.0, w.1)) (Has-set_cases before i k h)),
      (λ w. ⊎_elim
          (λ (l : k < e). Has-set_other before i k ((b.flags k).1 (l, w.1)))
          (λ (l : e ≤ k). subst (λ (j : ℕ). Has (set before i true) j) (same k w.0 l) (Has-set_same before i (let n = slice_get_within hops e hop p in let m = b.count in omega arith)))
          (cases_lt k e)),
    )
      where
        below : {k : ℕ} → k < e → k < e + 1
        below h = omega arith

        at : (k : ℕ) → k ≡ e → k < e + 1
        at k h = omega arith

        same : (k : ℕ) → k < e + 1 → e ≤ k → i ≡ k
        same k h l = let m = q in omega arith

    -- there is no path between the ends of the link
    pub before_more : AreApart hops before hop.tail hop.head → AreBefore hops chosen (e + 1) (set before i true)
    before_more apart = record {
      count = length-set before i true ∙ b.count;
      flags = flags_more;
      forest = forest-weaker hops (λ k. Has before k ⊎ (k ≡ e)) (Has (set before i true))
          (λ k h. ⊎_elim (λ (s : k ≡ i). inr (s ∙ q)) (λ (s : Has before k). inl s) (Has-set_cases before i k h))
          (forest-more hops (Has before) e hop p (flag apart.flags) (λ f g r h. flag_same apart.flags g.tail g.head (apart.closed f g r h))
          (flag_other apart.flags hop.tail hop.head apart.from_in apart.to_out) b.forest);
    }

    -- of links that are known to be a forest
    pub before_known : (known : ℕ) → e < known → IsForest hops (λ k. (k < known) × Has chosen k) → AreBefore hops chosen (e + 1) (set before i true)
    before_known known l f = record {
      count = length-set before i true ∙ b.count;
      flags = flags_more;
      forest = forest-weaker hops (λ k. (k < known) × Has chosen k) (Has (set before i true)) (λ k h. let w = (flags_more k).0 h in (sooner k w.0, w.1)) f;
    }
      where
        sooner : (k : ℕ) → k < e + 1 → k < known
        sooner k h = omega arith

  -- the chosen links before are a forest
  pub forest_before : IsForest hops (λ k. (k < e) × Has chosen k)
  forest_before = forest-weaker hops (Has before) (λ k. (k < e) × Has chosen k) (λ k w. (b.flags k).1 w) b.forest

  -- ---- a path between the ends of the link at the index closes a cycle
  push_cases : (steps : List (ℕ × Bool)) (k : ℕ) → Contains (links_of (steps ++ (e, true) ∷ [])) k → Contains (links_of steps) k ⊎ (k ≡ e)
  push_cases [] k c = ⊎_elim (λ (s : e ≡ k). inr (sym s)) (λ (s : Contains [] k). absurd (contains_none k s)) (contains_cases e [] k c)
  push_cases (s ∷ steps) k c = ⊎_elim
      (λ (q : s.0 ≡ k). inl (contains_first s.0 (links_of steps) k q))
      (λ (q : Contains (links_of (steps ++ (e, true) ∷ [])) k). ⊎_elim (λ (r : Contains (links_of steps) k). inl (contains_more s.0 (links_of steps) k r))
      (λ (r : k ≡ e). inr r) (push_cases steps k q))
      (contains_cases s.0 (links_of (steps ++ (e, true) ∷ [])) k c)

  push_contains : (steps : List (ℕ × Bool)) → Contains (links_of (steps ++ (e, true) ∷ [])) e
  push_contains [] = contains_first e [] e refl
  push_contains (s ∷ steps) = contains_more s.0 (links_of (steps ++ (e, true) ∷ [])) e (push_contains steps)

  push_differ : (steps : List (ℕ × Bool)) → AllDiffer (links_of steps) → (Contains (links_of steps) e → ⊥) → AllDiffer (links_of (steps ++ (e, true) ∷ []))
  push_differ [] d n = ((λ c. contains_none e c), tt)
  push_differ (s ∷ steps) d n = (
    (λ c. ⊎_elim (λ (q : Contains (links_of steps) s.0). d.0 q) (λ (q : s.0 ≡ e). n (contains_first s.0 (links_of steps) e q)) (push_cases steps s.0 c)),
    push_differ steps d.1 (λ c. n (contains_more s.0 (links_of steps) e c)),
  )

  push_trail : (hop : Hop) → IsHop hops e hop → Has chosen e → (steps : List (ℕ × Bool)) (v : ℕ) → IsTrail hops (Has chosen) steps v hop.tail
      → IsTrail hops (Has chosen) (steps ++ (e, true) ∷ []) v hop.head
  push_trail hop p c [] v t = (hop, p, c, t, refl)
  push_trail hop p c (s ∷ steps) v (g, q, a, at, t) = (g, q, a, at, push_trail hop p c steps _ t)

  from_trail : (steps : List (ℕ × Bool)) (v w k : ℕ) → IsTrail hops (Has before) steps v w → Contains (links_of steps) k → Has before k
  from_trail [] v w k t (j, h, q) = absurd (omega arith)
  from_trail (s ∷ steps) v w k (g, q, a, at, t) c =
      ⊎_elim (λ (r : s.0 ≡ k). subst (λ (i : ℕ). Has before i) r a) (λ (r : Contains (links_of steps) k). from_trail steps _ w k t r)
      (contains_cases s.0 (links_of steps) k c)

  split : (steps : List (ℕ × Bool)) → (first : ℕ × Bool) × (rest : List (ℕ × Bool)) × (steps ++ (e, true) ∷ [] ≡ first ∷ rest)
  split [] = ((e, true), [], refl)
  split (s ∷ steps) = (s, steps ++ (e, true) ∷ [], refl)

  pub closed-way : (hop : Hop) (back : List (ℕ × Bool)) → IsHop hops e hop → Has chosen e → IsWay hops before hop.tail hop.head back → IsClosedTrail hops chosen (back ++ (e, true) ∷ [])
  closed-way hop back p c way =
      let s = split back in
      record {
        first = s.0;
        rest = s.1;
        steps_are = s.2;
        start = hop.head;
        trail = push_trail hop p c back hop.head (weaker hops (Has before) (Has chosen) back hop.head hop.tail way.trail (λ k _ h. ((b.flags k).0 h).1));
        differ = push_differ back way.differ (λ h. self (((b.flags e).0 (from_trail back hop.head hop.tail e way.trail h)).0));
        last = e;
        closes = push_contains back;
        highest = λ k h. ⊎_elim (λ (q : Contains (links_of back) k). less (((b.flags k).0 (from_trail back hop.head hop.tail k way.trail q)).0))
            (λ (q : k ≡ e). at k q) (push_cases back k h);
        before = forest-weaker hops (Has before) (λ k. (k < e) × Has chosen k) (λ k w. (b.flags k).1 w) b.forest;
      }
    where
      self : e < e → ⊥
      self h = absurd (omega arith)

      less : {k : ℕ} → k < e → k ≤ e
      less h = omega arith

      at : (k : ℕ) → k ≡ e → k ≤ e
      at k q = omega arith

pub forest-end : (hops : List Hop) (chosen : List Bool) (e : ℕ) (before : List Bool) → AreBefore hops chosen e before → length chosen ≡ length hops
    → length hops ≤ e → IsForest hops (Has chosen)
forest-end hops chosen e before b l h = forest-weaker hops (Has before) (Has chosen) (λ k c. (b.flags k).1 (let w = Has-within chosen k c in omega arith, c)) b.forest

-- ---- the lowest link
pub record IsLowest (steps : List (ℕ × Bool)) (best : ℕ × Bool) : Type 0 where
  pub turn : turn_of steps best.0 ≡ Some best.1
  pub least : (e : ℕ) → Contains (links_of steps) e → best.0 ≤ e

data Chosen (steps : List (ℕ × Bool)) (best result : ℕ × Bool) : Type 0 where
  kept : result ≡ best → Chosen steps best result
  found : turn_of steps result.0 ≡ Some result.1 → (result.0 < best.0) → Chosen steps best result

abbrev LowestOf : List (ℕ × Bool) → ℕ × Bool → ℕ × Bool → Type 0
LowestOf steps best result = Chosen steps best result × ((result.0 ≤ best.0) × ((e : ℕ) → Contains (links_of steps) e → result.0 ≤ e))

lowest-of : (steps : List (ℕ × Bool)) (best result : ℕ × Bool) → lowest_from (Some best) steps ≡ Some result → LowestOf steps best result
lowest-of [] best result h = (kept (sym (same_Some best result h)), (at result best (same_Some best result h), λ e c. absurd (contains_none e c)))
  where
    at : (r b : ℕ × Bool) → b ≡ r → r.0 ≤ b.0
    at r b q = let k : b.0 ≡ r.0 = ap (λ (p : ℕ × Bool). p.0) q in omega arith
lowest-of (s ∷ steps) best result h = by (nat_le best.0 s.0) refl (lowest-of steps (lower_step (Some best) s) result h)
  where
    old : best.0 ≤ s.0 → LowestOf steps best result → LowestOf (s ∷ steps) best result
    old l r = (go r.0, (r.1.0, λ e c. ⊎_elim (λ (q : s.0 ≡ e). let m = r.1.0 in omega arith) (λ (q : Contains (links_of steps) e). r.1.1 e q) (contains_cases s.0 (links_of steps) e c)))
      where
        go : Chosen steps best result → Chosen (s ∷ steps) best result
        go (kept e) = kept e
        go (found t k) = found (turn-other s.0 s.1 steps result.0 (λ q. absurd (omega arith)) ∙ t) k

    new : s.0 < best.0 → LowestOf steps s result → LowestOf (s ∷ steps) best result
    new l r = (
      go r.0,
      (
        let m = r.1.0 in omega arith,
        λ e c. ⊎_elim (λ (q : s.0 ≡ e). let m = r.1.0 in omega arith)
            (λ (q : Contains (links_of steps) e). r.1.1 e q) (contains_cases s.0 (links_of steps) e c),
      ),
    )
      where
        go : Chosen steps s result → Chosen (s ∷ steps) best result
        go (kept e) = found (turn-same s.0 s.1 steps result.0 (sym (ap (λ (p : ℕ × Bool). p.0) e)) ∙ ap (λ (p : ℕ × Bool). Some p.1) (sym e))
            (let m : result.0 ≡ s.0 = ap (λ (p : ℕ × Bool). p.0) e in omega arith)
        go (found t k) = found (turn-other s.0 s.1 steps result.0 (λ q. absurd (omega arith)) ∙ t) (omega arith)

    by : (t : Bool) → nat_le best.0 s.0 ≡ t → LowestOf steps (if t then best else s) result → LowestOf (s ∷ steps) best result
    by true e r = old (le_of e) r
      where
        le_of : nat_le best.0 s.0 ≡ true → best.0 ≤ s.0
        le_of e = ⊎_elim (λ (w : (nat_le best.0 s.0 ≡ true) × (best.0 ≤ s.0)). w.1)
            (λ (w : (nat_le best.0 s.0 ≡ false) × (s.0 < best.0)). absurd (let q = w.0 in cc)) (leb_tells best.0 s.0)
    by false e r = new (lt_of e) r
      where
        lt_of : nat_le best.0 s.0 ≡ false → s.0 < best.0
        lt_of e = ⊎_elim (λ (w : (nat_le best.0 s.0 ≡ true) × (best.0 ≤ s.0)). absurd (let q = w.0 in cc))
            (λ (w : (nat_le best.0 s.0 ≡ false) × (s.0 < best.0)). w.1) (leb_tells best.0 s.0)

pub lowest-is : (s : ℕ × Bool) (steps : List (ℕ × Bool)) (best : ℕ × Bool) → lowest_from None (s ∷ steps) ≡ Some best → IsLowest (s ∷ steps) best
lowest-is s steps best h =
    let r = lowest-of steps s best h in
    record {
      turn = go r.0;
      least = λ e c. ⊎_elim (λ (q : s.0 ≡ e). let m = r.1.0 in omega arith) (λ (q : Contains (links_of steps) e). r.1.1 e q)
          (contains_cases s.0 (links_of steps) e c);
    }
  where
    go : Chosen steps s best → turn_of (s ∷ steps) best.0 ≡ Some best.1
    go (kept e) = turn-same s.0 s.1 steps best.0 (sym (ap (λ (p : ℕ × Bool). p.0) e)) ∙ ap (λ (p : ℕ × Bool). Some p.1) (sym e)
    go (found t k) = turn-other s.0 s.1 steps best.0 (λ q. absurd (omega arith)) ∙ t

-- ---- reversed if the lowest link is used backward
pub first-forward : (hops : List Hop) (chosen : List Bool) (steps : List (ℕ × Bool)) (e : ℕ) → IsClosedTrail hops chosen steps → IsLowest steps (e, true) → IsFirstCycle hops chosen steps
first-forward hops chosen steps e c l = record { closed = c; lowest = e; grows = l.turn; least = l.least }

round-split : (steps : List (ℕ × Bool)) (e : ℕ) → Contains (links_of steps) e → (first : ℕ × Bool) × (rest : List (ℕ × Bool)) × (steps ≡ first ∷ rest)
round-split [] e (j, h, q) = absurd (omega arith)
round-split (s ∷ steps) e c = (s, steps, refl)

pub first-backward : (hops : List Hop) (chosen : List Bool) (steps : List (ℕ × Bool)) (e : ℕ) → IsClosedTrail hops chosen steps → IsLowest steps (e, false)
    → IsFirstCycle hops chosen (round_onto [] steps)
first-backward hops chosen steps e c l =
    let s = round-split (round_onto [] steps) c.last (contains-round steps [] c.last c.closes) in
    record {
      closed = record {
        first = s.0;
        rest = s.1;
        steps_are = s.2;
        start = c.start;
        trail = round-trail hops (Has chosen) steps [] c.start c.start c.start c.trail refl;
        differ = round-differ steps [] c.differ tt (λ k _ h. contains_none k h);
        last = c.last;
        closes = contains-round steps [] c.last c.closes;
        highest = λ k h. c.highest k (from k h);
        before = c.before;
      };
      lowest = e;
      grows = round-turn steps [] e false c.differ l.turn;
      least = λ k h. l.least k (from k h);
    }
  where
    from : (k : ℕ) → Contains (links_of (round_onto [] steps)) k → Contains (links_of steps) k
    from k h = ⊎_elim (λ (q : Contains [] k). absurd (contains_none k q)) (λ (q : Contains (links_of steps) k). q) (round-contains steps [] k h)

-- ---- as it is computed
lowest_some : (steps : List (ℕ × Bool)) (best : ℕ × Bool) → lowest_from (Some best) steps ≡ None → ⊥
lowest_some [] best h = none-some best (sym h)
lowest_some (s ∷ steps) best h = lowest_some steps (lower_step (Some best) s) h

pub lowest-none : (hops : List Hop) (chosen : List Bool) (steps : List (ℕ × Bool)) → IsClosedTrail hops chosen steps → lowest_from None steps ≡ None → ⊥
lowest-none hops chosen steps c h = lowest_some c.rest c.first (ap (lowest_from None) (sym c.steps_are) ∙ h)

pub lowest-closed : (hops : List Hop) (chosen : List Bool) (steps : List (ℕ × Bool)) (best : ℕ × Bool) → IsClosedTrail hops chosen steps
    → lowest_from None steps ≡ Some best → IsLowest steps best
lowest-closed hops chosen steps best c h =
    subst (λ (l : List (ℕ × Bool)). IsLowest l best) (sym c.steps_are) (lowest-is c.first c.rest best (ap (lowest_from None) (sym c.steps_are) ∙ h))

pub kept-forward : (hops : List Hop) (chosen : List Bool) (steps : List (ℕ × Bool)) (best : ℕ × Bool) → IsClosedTrail hops chosen steps
    → lowest_from None steps ≡ Some best → best.1 ≡ true → IsFirstCycle hops chosen steps
kept-forward hops chosen steps (e, b) c h q = first-forward hops chosen steps e c (subst (λ (t : Bool). IsLowest steps (e, t)) q (lowest-closed hops chosen steps (e, b) c h))

pub turned-forward : (hops : List Hop) (chosen : List Bool) (steps : List (ℕ × Bool)) (best : ℕ × Bool) → IsClosedTrail hops chosen steps
    → lowest_from None steps ≡ Some best → best.1 ≡ false → IsFirstCycle hops chosen (round_onto [] steps)
turned-forward hops chosen steps (e, b) c h q = first-backward hops chosen steps e c (subst (λ (t : Bool). IsLowest steps (e, t)) q (lowest-closed hops chosen steps (e, b) c h))

pub if-ok : {A E : Type 0} (r : Result A E) (P Q : A → Type 0) → ((x : A) → P x → Q x) → IfOk r P → IfOk r Q
if-ok (Ok x) P Q f h = f x h
if-ok (Err e) P Q f h = tt

pub not_false : (b : Bool) → not b ≡ false → b ≡ true
not_false true h = refl
not_false false h = cc
