-- Whether an assignment is listed is decided, so every question has a listing.
use Rattle.std.proofs.Common.{◌≡◌, ◌≢◌, ℕ, zero, suc, ◌<◌, Bool, true, false, List, [], ◌∷◌, ◌++◌, length, inl, inr, ◌⊎◌, ⊎_elim, eqb, Option, Some, None}
use Rattle.std.proofs.Common.{refl, sym, ap, subst, ◌∙◌, arith, Contains}
use Rattle.nf_pattern.proofs.Common.{eqb_tells, none-some, same_Some, slice_get_within, cases_eq, State, Tight, Full, Zero, Has, Hop, IsHop, Pattern}
use Rattle.nf_pattern.proofs.Common.{HasState, IsTrail, AllDiffer, IsBefore, StandsIn, InOrder, IsBefore-transitive, ordered_by_place, has_or_not}
use Rattle.nf_pattern.proofs.Common.{IsHop-unique, AreJoined, TightBefore, LeadsBack, Closes, MayCarry, IsEntered, EntersBy, IsAssignment, Spares}
use Rattle.nf_pattern.proofs.Common.{next_assignment, Question, IsQuestion, IsListedBy, IsFrom, IsListingOf}
use Rattle.nf_pattern.proofs.Trails.{Steps, numbers, start_of, end_of, find_step, differ_front, differ_back, trail_append, trail_split, trail_by, shorten}
use Rattle.nf_pattern.proofs.Forests.{is_forest, no_forest, closing_below}
use Rattle.nf_pattern.proofs.Barren.{listed_by}
use Rattle.nf_pattern.proofs.Choosing.{assigned_length}
use Rattle.nf_pattern.proofs.Sparing.{unflagged, none_flagged}
use Rattle.nf_pattern.proofs.Seeking.{valid, listed_assigned, advances_by, none_advances_by, step_fewer, from_next, none_after, all_from_base}
use Rattle.nf_pattern.proofs.Ranging.{left_after}
use Rattle.nf_pattern.proofs.Fronts.{stands_cases}

abbrev pub Decided : Type 0 → Type 0
Decided P = P ⊎ (P → ⊥)

-- ---- some number below a bound, or none
pub decide_below : (P : ℕ → Type 0) → ((e : ℕ) → Decided (P e)) → (n : ℕ) → ((e : ℕ) × (e < n) × P e) ⊎ ((e : ℕ) → e < n → P e → ⊥)
decide_below P each zero = inr (λ e less p. omega arith)
decide_below P each (suc n) = ⊎_elim
    (λ (w : (e : ℕ) × (e < n) × P e). inl (w.0, (let l = w.1 in omega arith), w.2))
    (λ (none : (e : ℕ) → e < n → P e → ⊥). ⊎_elim
    (λ (p : P n). inl (n, omega arith, p))
    (λ (not_here : P n → ⊥). inr (λ e less p. ⊎_elim
    (λ (w : (eqb e n ≡ true) × (e ≡ n)). not_here (subst P w.1 p))
    (λ (w : (eqb e n ≡ false) × (e ≢ n)). none e (let a = w.1 in omega arith) p)
    (eqb_tells e n)))
    (each n))
    (decide_below P each n)

decide_both : (P Q : Type 0) → Decided P → Decided Q → Decided (P × Q)
decide_both P Q (inl p) (inl q) = inl (p, q)
decide_both P Q (inl p) (inr n) = inr (λ w. n w.1)
decide_both P Q (inr n) d = inr (λ w. n w.0)

decide_one : (P Q : Type 0) → Decided P → Decided Q → Decided (P ⊎ Q)
decide_one P Q (inl p) d = inl (inl p)
decide_one P Q (inr n) (inl q) = inl (inr q)
decide_one P Q (inr n) (inr m) = inr (λ w. ⊎_elim n m w)

decide_entry : (s : Option State) (state : State) → Decided (s ≡ Some state)
decide_entry None state = inr (λ h. none-some state h)
decide_entry (Some Tight) Tight = inl refl
decide_entry (Some Tight) Full = inr (λ h. cc)
decide_entry (Some Tight) Zero = inr (λ h. cc)
decide_entry (Some Full) Tight = inr (λ h. cc)
decide_entry (Some Full) Full = inl refl
decide_entry (Some Full) Zero = inr (λ h. cc)
decide_entry (Some Zero) Tight = inr (λ h. cc)
decide_entry (Some Zero) Full = inr (λ h. cc)
decide_entry (Some Zero) Zero = inl refl

pub decide_state : (p : Pattern) (e : ℕ) (state : State) → Decided (HasState p e state)
decide_state [] e state = inr (λ h. none-some (Some state) h)
decide_state (s ∷ p) zero state =
    ⊎_elim (λ (same : s ≡ Some state). inl (ap (λ (x : Option State). Some x) same))
    (λ (other : s ≡ Some state → ⊥). inr (λ h. other (same_Some s (Some state) h))) (decide_entry s state)
decide_state (s ∷ p) (suc e) state = decide_state p e state

-- the hop at a place
pub hop_at : (hops : List Hop) (e : ℕ) → ((hop : Hop) × IsHop hops e hop) ⊎ ((hop : Hop) → IsHop hops e hop → ⊥)
hop_at [] e = inr (λ hop h. none-some hop h)
hop_at (x ∷ hops) zero = inl (x, refl)
hop_at (x ∷ hops) (suc e) = hop_at hops e

-- ---- whether Tight links lead from one node to another: with one link more, also by this link
module _ (hops : List Hop) (p : Pattern) where
  abbrev pub Joined : ℕ → ℕ → ℕ → Type 0
  Joined n v w = AreJoined hops (TightBefore p n) v w

  -- over link n, forward or backward
  abbrev pub Over : ℕ → Hop → ℕ → ℕ → Type 0
  Over n hop v w = (Joined n v hop.tail × Joined n hop.head w) ⊎ (Joined n v hop.head × Joined n hop.tail w)

  wider : (n : ℕ) (s : Steps) (v w : ℕ) → IsTrail hops (TightBefore p n) s v w → IsTrail hops (TightBefore p (suc n)) s v w
  wider n s v w q = trail_by hops (TightBefore p n) (TightBefore p (suc n)) s v w (λ k c t. ((let l = t.0 in omega arith), t.1)) q

  narrower : (n : ℕ) (s : Steps) (v w : ℕ) → (Contains (numbers s) n → ⊥) → IsTrail hops (TightBefore p (suc n)) s v w → IsTrail hops (TightBefore p n) s v w
  narrower n s v w none q = trail_by hops (TightBefore p (suc n)) (TightBefore p n) s v w
      (λ k c t. (
        ⊎_elim
            (λ (x : (eqb k n ≡ true) × (k ≡ n)). absurd (none (subst (λ (m : ℕ). Contains (numbers s) m) x.1 c)))
            (λ (x : (eqb k n ≡ false) × (k ≢ n)). let l = t.0 in let a = x.1 in omega arith) (eqb_tells k n),
        t.1,
      )) q

  over_joins : (n : ℕ) (hop : Hop) (v w : ℕ) → IsHop hops n hop → HasState p n Tight → Over n hop v w → Joined (suc n) v w
  over_joins n hop v w is tight (inl x) =
      let first = wider n x.0.0 v hop.tail x.0.1 in let last = wider n x.1.0 hop.head w x.1.1 in
      (x.0.0 ++ (n, true) ∷ x.1.0, trail_append hops (TightBefore p (suc n)) x.0.0 ((n, true) ∷ x.1.0) v hop.tail w first (hop, is, (omega arith, tight), refl, last))
  over_joins n hop v w is tight (inr x) =
      let first = wider n x.0.0 v hop.head x.0.1 in let last = wider n x.1.0 hop.tail w x.1.1 in
      (x.0.0 ++ (n, false) ∷ x.1.0, trail_append hops (TightBefore p (suc n)) x.0.0 ((n, false) ∷ x.1.0) v hop.head w first (hop, is, (omega arith, tight), refl, last))

  pub joins_over : (n : ℕ) (v w : ℕ) → Joined (suc n) v w → Joined n v w ⊎ ((hop : Hop) × IsHop hops n hop × HasState p n Tight × Over n hop v w)
  joins_over n v w joined =
      let short = shorten hops (TightBefore p (suc n)) joined.0 v w joined.1 in
      ⊎_elim
      (λ (x : (front : Steps) × (forward : Bool) × (back : Steps) × (short.0 ≡ front ++ (n, forward) ∷ back)).
      let differ = subst (λ (s : Steps). AllDiffer (numbers s)) x.3 short.1 in
      let parts = trail_split hops (TightBefore p (suc n)) x.0 x.2 n x.1 v w (subst (λ (s : Steps). IsTrail hops (TightBefore p (suc n)) s v w) x.3 short.2) in
      inr (
        parts.0,
        parts.1,
        parts.2.1,
        either x.1 parts.0
            (x.0, narrower n x.0 v (start_of x.1 parts.0) (differ_front x.0 x.2 n x.1 differ) parts.3)
            (x.2, narrower n x.2 (end_of x.1 parts.0) w (differ_back x.0 x.2 n x.1 differ).0 parts.4),
      ))
      (λ (none : Contains (numbers short.0) n → ⊥). inl (short.0, narrower n short.0 v w none short.2))
      (find_step n short.0)
    where
      either : (d : Bool) (hop : Hop) → Joined n v (start_of d hop) → Joined n (end_of d hop) w → Over n hop v w
      either true hop a b = inl (a, b)
      either false hop a b = inr (a, b)

  no_steps : (s : Steps) (v w : ℕ) → IsTrail hops (TightBefore p 0) s v w → (v ≡ w → ⊥) → ⊥
  no_steps [] v w q other = other q
  no_steps ((e, d) ∷ s) v w q other = let l = q.2.0 in omega arith

  decide_more : (n : ℕ) → ((a b : ℕ) → Decided (Joined n a b)) → (v w : ℕ) → Decided (Joined n v w)
      → ((hop : Hop) × IsHop hops n hop) ⊎ ((hop : Hop) → IsHop hops n hop → ⊥) → Decided (HasState p n Tight)
      → Decided (Joined (suc n) v w)
  decide_more n each v w (inl j) h t = inl (j.0, wider n j.0 v w j.1)
  decide_more n each v w (inr none) (inr no_hop) t =
      inr (λ j. ⊎_elim none (λ (x : (hop : Hop) × IsHop hops n hop × HasState p n Tight × Over n hop v w). no_hop x.0 x.1) (joins_over n v w j))
  decide_more n each v w (inr none) (inl h) (inr loose) =
      inr (λ j. ⊎_elim none (λ (x : (hop : Hop) × IsHop hops n hop × HasState p n Tight × Over n hop v w). loose x.2) (joins_over n v w j))
  decide_more n each v w (inr none) (inl h) (inl tight) = ⊎_elim
      (λ (x : Over n h.0 v w). inl (over_joins n h.0 v w h.1 tight x))
      (λ (not_over : Over n h.0 v w → ⊥). inr (λ j. ⊎_elim none
      (λ (x : (hop : Hop) × IsHop hops n hop × HasState p n Tight × Over n hop v w). not_over
      (subst (λ (y : Hop). Over n y v w) (IsHop-unique hops n x.0 h.0 x.1 h.1) x.3)) (joins_over n v w j)))
      (decide_one (Joined n v h.0.tail × Joined n h.0.head w) (Joined n v h.0.head × Joined n h.0.tail w)
      (decide_both (Joined n v h.0.tail) (Joined n h.0.head w) (each v h.0.tail) (each h.0.head w))
      (decide_both (Joined n v h.0.head) (Joined n h.0.tail w) (each v h.0.head) (each h.0.tail w)))

  pub decide_joined : (n v w : ℕ) → Decided (Joined n v w)
  decide_joined zero v w = ⊎_elim (λ (e : v ≡ w). inl ([], e)) (λ (other : v ≡ w → ⊥). inr (λ j. no_steps j.0 v w j.1 other)) (cases_eq v w)
  decide_joined (suc n) v w = decide_more n (λ a b. decide_joined n a b) v w (decide_joined n v w) (hop_at hops n) (decide_state p n Tight)

  decide_back : (e : ℕ) → Decided (LeadsBack hops p e)
  decide_back e = ⊎_elim
      (λ (h : (hop : Hop) × IsHop hops e hop). ⊎_elim
      (λ (j : Joined e h.0.head h.0.tail). inl (record { hop = h.0; is_hop = h.1; joined = j }))
      (λ (none : Joined e h.0.head h.0.tail → ⊥). inr (λ b. none (subst (λ (y : Hop). Joined e y.head y.tail) (IsHop-unique hops e b.hop h.0 b.is_hop h.1) b.joined)))
      (decide_joined e h.0.head h.0.tail))
      (λ (none : (hop : Hop) → IsHop hops e hop → ⊥). inr (λ b. none b.hop b.is_hop))
      (hop_at hops e)

  pub decide_closes : (e : ℕ) → Decided (Closes hops p e)
  decide_closes e = decide_both (HasState p e Tight) (LeadsBack hops p e) (decide_state p e Tight) (decide_back e)

  -- ---- and whether a link enters a node
  module _ (resetting : List Bool) where
    decide_carries : (e : ℕ) → Decided (MayCarry resetting p e)
    decide_carries e = decide_one (Has resetting e) (HasState p e Tight ⊎ HasState p e Full) (has_or_not resetting e)
        (decide_one (HasState p e Tight) (HasState p e Full) (decide_state p e Tight) (decide_state p e Full))

    decide_enters : (v e : ℕ) → Decided (EntersBy hops resetting p e v)
    decide_enters v e = ⊎_elim
        (λ (h : (hop : Hop) × IsHop hops e hop). ⊎_elim
        (λ (w : (h.0.head ≡ v) × MayCarry resetting p e). inl (h.0, h.1, w.0, w.1))
        (λ (none : (h.0.head ≡ v) × MayCarry resetting p e → ⊥). inr (λ x. none (ap (λ (y : Hop). y.head) (IsHop-unique hops e h.0 x.0 h.1 x.1) ∙ x.2, x.3)))
        (decide_both (h.0.head ≡ v) (MayCarry resetting p e) (cases_eq h.0.head v) (decide_carries e)))
        (λ (none : (hop : Hop) → IsHop hops e hop → ⊥). inr (λ x. none x.0 x.1))
        (hop_at hops e)

    decide_entered : (v : ℕ) → Decided (IsEntered hops resetting p v)
    decide_entered v = ⊎_elim
        (λ (w : (e : ℕ) × (e < length hops) × EntersBy hops resetting p e v). inl (w.0, w.2.0, w.2.1, w.2.2, w.2.3))
        (λ (none : (e : ℕ) → e < length hops → EntersBy hops resetting p e v → ⊥). inr (λ x. none x.0 (slice_get_within hops x.0 x.1 x.2) (x.1, x.2, x.3, x.4)))
        (decide_below (λ e. EntersBy hops resetting p e v) (decide_enters v) (length hops))

module _ (question : Question) (is : IsQuestion question) where
  decide_listed : (p : Pattern) → IsAssignment question.base question.unbounded p → Decided (IsListedBy question p)
  decide_listed p assigned = ⊎_elim
      (λ (w : (e : ℕ) × (e < length question.hops) × Closes question.hops p e). inr (λ l. no_forest question.hops p w.0 w.2 l.forest))
      (λ (none : (e : ℕ) → e < length question.hops → Closes question.hops p e → ⊥). ⊎_elim
      (λ (w : (v : ℕ) × (v < question.nodes) × (v ≢ question.source) × (IsEntered question.hops question.sets.resetting p v → ⊥)). inr (λ l. w.3 (l.entered w.0 w.1 w.2)))
      (λ (all : (v : ℕ) → v < question.nodes → (v ≢ question.source) × (IsEntered question.hops question.sets.resetting p v → ⊥) → ⊥). inl (listed_by question is p assigned
      (is_forest question.hops p (λ e c. none e (closing_below question.hops p e c) c))
      (λ v below apart. ⊎_elim (λ (e : IsEntered question.hops question.sets.resetting p v). e)
      (λ (n : IsEntered question.hops question.sets.resetting p v → ⊥). absurd (all v below (apart, n)))
      (decide_entered question.hops p question.sets.resetting v))))
      (nodes_below question.nodes))
      (decide_below (λ e. Closes question.hops p e) (decide_closes question.hops p) (length question.hops))
    where
      nodes_below : (n : ℕ) → ((v : ℕ) × (v < n) × (v ≢ question.source) × (IsEntered question.hops question.sets.resetting p v → ⊥))
          ⊎ ((v : ℕ) → v < n → (v ≢ question.source) × (IsEntered question.hops question.sets.resetting p v → ⊥) → ⊥)
      nodes_below n = ⊎_elim
          (λ (w : (v : ℕ) × (v < n) × ((v ≢ question.source) × (IsEntered question.hops question.sets.resetting p v → ⊥))). inl (w.0, w.1, w.2.0, w.2.1))
          (λ (none : (v : ℕ) → v < n → (v ≢ question.source) × (IsEntered question.hops question.sets.resetting p v → ⊥) → ⊥). inr none)
          (decide_below (λ v. (v ≢ question.source) × (IsEntered question.hops question.sets.resetting p v → ⊥))
          (λ v. decide_both (v ≢ question.source) (IsEntered question.hops question.sets.resetting p v → ⊥)
          (⊎_elim (λ (e : v ≡ question.source). inr (λ n. n e)) (λ (n : v ≡ question.source → ⊥). inl n) (cases_eq v question.source))
          (⊎_elim (λ (e : IsEntered question.hops question.sets.resetting p v). inr (λ n. n e))
          (λ (n : IsEntered question.hops question.sets.resetting p v → ⊥). inl n) (decide_entered question.hops p question.sets.resetting v))) n)

  -- ---- the listed patterns from an assignment on
  abbrev base : Pattern
  base = question.base

  -- those after it
  record IsRest (p : Pattern) (rest : List Pattern) : Type 0 where
    pub listed : (r : Pattern) → StandsIn rest r → IsListedBy question r
    pub later : (r : Pattern) → StandsIn rest r → IsBefore base p r
    pub whole : (r : Pattern) → IsListedBy question r → IsBefore base p r → StandsIn rest r
    pub ordered : InOrder (IsBefore base) rest

  record IsListingFrom (p : Pattern) (listing : List Pattern) : Type 0 where
    pub listed : (r : Pattern) → StandsIn listing r → IsListedBy question r
    pub from : (r : Pattern) → StandsIn listing r → IsFrom base p r
    pub whole : (r : Pattern) → IsListedBy question r → IsFrom base p r → StandsIn listing r
    pub ordered : InOrder (IsBefore base) listing

  with_first : (p : Pattern) (rest : List Pattern) → IsRest p rest → Decided (IsListedBy question p) → (listing : List Pattern) × IsListingFrom p listing
  with_first p rest is_rest (inl listed) = (
    p ∷ rest,
    record {
      listed = λ r here. ⊎_elim (λ (same : p ≡ r). subst (λ (x : Pattern). IsListedBy question x) same listed) (λ (w : StandsIn rest r). is_rest.listed r w)
          (stands_cases base p r rest here);
      from = λ r here. ⊎_elim (λ (same : p ≡ r). inl (sym same)) (λ (w : StandsIn rest r). inr (is_rest.later r w)) (stands_cases base p r rest here);
      whole = λ r l from. ⊎_elim (λ (same : r ≡ p). (0, ap (λ (x : Pattern). Some x) (sym same))) (λ (w : IsBefore base p r). let at = is_rest.whole r l w in (suc at.0, at.1)) from;
      ordered = ordered_first;
    },
  )
    where
      ordered_first : InOrder (IsBefore base) (p ∷ rest)
      ordered_first i zero x y less at_x at_y = absurd (omega arith)
      ordered_first zero (suc j) x y less at_x at_y = subst (λ (z : Pattern). IsBefore base z y) (same_Some p x at_x) (is_rest.later y (j, at_y))
      ordered_first (suc i) (suc j) x y less at_x at_y = is_rest.ordered i j x y (omega arith) at_x at_y
  with_first p rest is_rest (inr not_listed) = (
    rest,
    record {
      listed = is_rest.listed;
      from = λ r here. inr (is_rest.later r here);
      whole = λ r l from. ⊎_elim (λ (same : r ≡ p). absurd (not_listed (subst (λ (x : Pattern). IsListedBy question x) same l))) (λ (w : IsBefore base p r). is_rest.whole r l w) from;
      ordered = is_rest.ordered;
    },
  )

  -- no link is flagged
  spared : (r : Pattern) → IsListedBy question r → Spares (unflagged base) r
  spared r listed = none_flagged base r (assigned_length base question.unbounded r (listed_assigned question is r listed))

  none_rest : (p : Pattern) → IsAssignment base question.unbounded p → next_assignment (length base) base question.unbounded (unflagged base) p ≡ None → IsRest p []
  none_rest p assigned e = record {
    listed = λ r here. absurd (none-some r here.1);
    later = λ r here. absurd (none-some r here.1);
    whole = λ r listed later. absurd (none_after question is p assigned (length base) (omega arith)
        (none_advances_by question is (unflagged base) spared (length base) p e) r listed later);
    ordered = λ i j x y less at_x at_y. absurd (none-some x at_x);
  }

  more_rest : (p q : Pattern) (rest : List Pattern) → IsAssignment base question.unbounded p
      → next_assignment (length base) base question.unbounded (unflagged base) p ≡ Some q → IsListingFrom q rest → IsRest p rest
  more_rest p q rest assigned e is_listing =
      let step = advances_by question is (unflagged base) spared (length base) p q assigned e in
      record {
        listed = is_listing.listed;
        later = λ r here. ⊎_elim (λ (same : r ≡ q). subst (λ (x : Pattern). IsBefore base p x) (sym same) step.later)
            (λ (w : IsBefore base q r). IsBefore-transitive base p q r step.later w) (is_listing.from r here);
        whole = λ r listed later. is_listing.whole r listed (from_next question is p assigned (length base) (omega arith) q step r listed later);
        ordered = is_listing.ordered;
      }

  list_from : (fuel : ℕ) (p : Pattern) → IsAssignment base question.unbounded p → left_after base p < fuel → (listing : List Pattern) × IsListingFrom p listing
  list_from zero p assigned left = absurd (omega arith)
  list_from (suc fuel) p assigned left = go (next_assignment (length base) base question.unbounded (unflagged base) p) refl (λ q h l. list_from fuel q h l)
    where
      go : (o : Option Pattern) → next_assignment (length base) base question.unbounded (unflagged base) p ≡ o
          → ((q : Pattern) → IsAssignment base question.unbounded q → left_after base q < fuel → (listing : List Pattern) × IsListingFrom q listing)
          → (listing : List Pattern) × IsListingFrom p listing
      go None e rec = with_first p [] (none_rest p assigned e) (decide_listed p assigned)
      go (Some q) e rec =
          let step = advances_by question is (unflagged base) spared (length base) p q assigned e in
          let fewer = step_fewer question is (length base) p q assigned step in
          let rest = rec q step.assigned (omega arith) in
          with_first p rest.0 (more_rest p q rest.0 assigned e rest.1) (decide_listed p assigned)

  pub has_listing : (listing : List Pattern) × IsListingOf question listing
  has_listing =
      let whole = list_from (suc (left_after base base)) base (valid question is) (omega arith) in (
        whole.0,
        record {
          listed = λ place r at. whole.1.listed r (at.0, at.2);
          whole = λ r listed. let at = whole.1.whole r listed (all_from_base question is r listed) in (suc at.0, (at.0, refl, at.1));
          ordered = ordered_by_place base whole.0 whole.1.ordered;
        },
      )
