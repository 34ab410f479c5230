-- Trails: hops one after the other, each taken forward or backward.
use Rattle.std.proofs.Common.{◌≡◌, ◌≢◌, ℕ, Bool, true, false, not, List, [], ◌∷◌, ◌++◌, map, inl, inr, ◌⊎◌, ⊎_elim, eqb, refl, sym, ap, subst, Contains}
use Rattle.std.proofs.Common.{if◌then◌else◌}
use Rattle.nf_pattern.proofs.Common.{eqb_tells, IsHop-unique, Hop, IsHop, IsTrail, AllDiffer, AreJoined}
use Rattle.nf_rational_laws.proofs.Contained.{contains_none, contains_cases, contains_more, contains_first}

-- ---- elements of lists
abbrev pub Steps : Type 0
Steps = List (ℕ × Bool)

abbrev pub numbers : Steps → List ℕ
numbers steps = map (λ step. step.0) steps

-- A hop is crossed by one of the steps.
abbrev Splits : ℕ → Steps → Type 0
Splits n steps = (front : Steps) × (forward : Bool) × (back : Steps) × (steps ≡ front ++ (n, forward) ∷ back)

pub find_step : (n : ℕ) (steps : Steps) → Splits n steps ⊎ (Contains (numbers steps) n → ⊥)
find_step n [] = inr (λ c. contains_none n c)
find_step n ((e, d) ∷ steps) = ⊎_elim
    (λ (w : (eqb e n ≡ true) × (e ≡ n)). inl ([], d, steps, ap (λ (k : ℕ). (k, d) ∷ steps) w.1))
    (λ (w : (eqb e n ≡ false) × (e ≢ n)). ⊎_elim
    (λ (s : Splits n steps). inl ((e, d) ∷ s.0, s.1, s.2, ap (λ (x : Steps). (e, d) ∷ x) s.3))
    (λ (none : Contains (numbers steps) n → ⊥). inr (λ c. ⊎_elim (λ (same : e ≡ n). absurd (w.1 same))
    (λ (later : Contains (numbers steps) n). absurd (none later)) (contains_cases e (numbers steps) n c)))
    (find_step n steps))
    (eqb_tells e n)

middle_there : (front back : Steps) (n : ℕ) (d : Bool) → Contains (numbers (front ++ (n, d) ∷ back)) n
middle_there [] back n d = contains_first n (numbers back) n refl
middle_there ((e, f) ∷ front) back n d = contains_more e (numbers (front ++ (n, d) ∷ back)) n (middle_there front back n d)

-- where all hops differ, those before one and those after it are others
pub differ_front : (front back : Steps) (n : ℕ) (d : Bool) → AllDiffer (numbers (front ++ (n, d) ∷ back)) → Contains (numbers front) n → ⊥
differ_front [] back n d a c = contains_none n c
differ_front ((e, f) ∷ front) back n d a c = ⊎_elim
    (λ (same : e ≡ n). a.0 (subst (λ (k : ℕ). Contains (numbers (front ++ (n, d) ∷ back)) k) (sym same) (middle_there front back n d)))
    (λ (later : Contains (numbers front) n). differ_front front back n d a.1 later)
    (contains_cases e (numbers front) n c)

pub differ_back : (front back : Steps) (n : ℕ) (d : Bool) → AllDiffer (numbers (front ++ (n, d) ∷ back)) → (Contains (numbers back) n → ⊥) × AllDiffer (numbers back)
differ_back [] back n d a = a
differ_back ((e, f) ∷ front) back n d a = differ_back front back n d a.1

-- ---- trails
abbrev pub start_of : Bool → Hop → ℕ
start_of forward hop = if forward then hop.tail else hop.head

abbrev pub end_of : Bool → Hop → ℕ
end_of forward hop = if forward then hop.head else hop.tail

module _ (hops : List Hop) where
  pub trail_append : (A : ℕ → Type 0) (s t : Steps) (v w x : ℕ) → IsTrail hops A s v w → IsTrail hops A t w x → IsTrail hops A (s ++ t) v x
  trail_append A [] t v w x p q = subst (λ (n : ℕ). IsTrail hops A t n x) (sym p) q
  trail_append A ((e, d) ∷ s) t v w x p q = (p.0, p.1, p.2, p.3, trail_append A s t (end_of d p.0) w x p.4 q)

  -- the parts of a trail before and after a step
  pub trail_split : (A : ℕ → Type 0) (front back : Steps) (n : ℕ) (d : Bool) (v w : ℕ) → IsTrail hops A (front ++ (n, d) ∷ back) v w
      → (hop : Hop) × IsHop hops n hop × A n × IsTrail hops A front v (start_of d hop) × IsTrail hops A back (end_of d hop) w
  trail_split A [] back n d v w p = (p.0, p.1, p.2, p.3, p.4)
  trail_split A ((e, f) ∷ front) back n d v w p =
      let rest = trail_split A front back n d (end_of f p.0) w p.4 in
      (rest.0, rest.1, rest.2, (p.0, p.1, p.2, p.3, rest.3), rest.4)

  -- each of its hops is allowed
  pub trail_allows : (A : ℕ → Type 0) (s : Steps) (v w k : ℕ) → IsTrail hops A s v w → Contains (numbers s) k → A k
  trail_allows A [] v w k p c = absurd (contains_none k c)
  trail_allows A ((e, d) ∷ s) v w k p c = ⊎_elim
      (λ (same : e ≡ k). subst (λ (n : ℕ). A n) same p.2)
      (λ (later : Contains (numbers s) k). trail_allows A s (end_of d p.0) w k p.4 later)
      (contains_cases e (numbers s) k c)

  -- a trail of hops that are allowed by another rule
  pub trail_by : (A B : ℕ → Type 0) (s : Steps) (v w : ℕ) → ((k : ℕ) → Contains (numbers s) k → A k → B k) → IsTrail hops A s v w → IsTrail hops B s v w
  trail_by A B [] v w by p = p
  trail_by A B ((e, d) ∷ s) v w by p = (
    p.0,
    p.1,
    by e (contains_first e (numbers s) e refl) p.2,
    p.3,
    trail_by A B s (end_of d p.0) w (λ k c a. by k (contains_more e (numbers s) k c) a) p.4,
  )

  -- ---- from end to start
  one_back : (A : ℕ → Type 0) (e : ℕ) (d : Bool) (v : ℕ) (hop : Hop) → IsHop hops e hop → A e → v ≡ start_of d hop → IsTrail hops A ((e, not d) ∷ []) (end_of d hop) v
  one_back A e true v hop p a s = (hop, p, a, refl, sym s)
  one_back A e false v hop p a s = (hop, p, a, refl, sym s)

  pub joined_back : (A : ℕ → Type 0) (s : Steps) (v w : ℕ) → IsTrail hops A s v w → AreJoined hops A w v
  joined_back A [] v w p = ([], sym p)
  joined_back A ((e, d) ∷ s) v w p =
      let rest = joined_back A s (end_of d p.0) w p.4 in
      (rest.0 ++ (e, not d) ∷ [], trail_append A rest.0 ((e, not d) ∷ []) w (end_of d p.0) v rest.1 (one_back A e d v p.0 p.1 p.2 p.3))

  -- ---- shorter
  abbrev Short : (ℕ → Type 0) → ℕ → ℕ → Type 0
  Short A v w = (s : Steps) × AllDiffer (numbers s) × IsTrail hops A s v w

  -- A hop before a trail that crosses the hop again: in both directions, the trail after the hop is enough.
  again : (A : ℕ → Type 0) (e : ℕ) (d f : Bool) (v w : ℕ) (hop : Hop) (back : Steps) → IsHop hops e hop → A e → v ≡ start_of d hop
      → (Contains (numbers back) e → ⊥) → AllDiffer (numbers back)
      → IsTrail hops A back (end_of f hop) w → Short A v w
  again A e true true v w hop back p a s none differ q = ((e, true) ∷ back, (none, differ), (hop, p, a, s, q))
  again A e true false v w hop back p a s none differ q = (back, differ, subst (λ (n : ℕ). IsTrail hops A back n w) (sym s) q)
  again A e false true v w hop back p a s none differ q = (back, differ, subst (λ (n : ℕ). IsTrail hops A back n w) (sym s) q)
  again A e false false v w hop back p a s none differ q = ((e, false) ∷ back, (none, differ), (hop, p, a, s, q))

  pub shorten : (A : ℕ → Type 0) (s : Steps) (v w : ℕ) → IsTrail hops A s v w → Short A v w
  shorten A [] v w p = ([], tt, p)
  shorten A ((e, d) ∷ s) v w p =
      let rest = shorten A s (end_of d p.0) w p.4 in
      ⊎_elim
      (λ (x : Splits e rest.0).
      let differ = differ_back x.0 x.2 e x.1 (subst (λ (y : Steps). AllDiffer (numbers y)) x.3 rest.1) in
      let parts = trail_split A x.0 x.2 e x.1 (end_of d p.0) w (subst (λ (y : Steps). IsTrail hops A y (end_of d p.0) w) x.3 rest.2) in
      again A e d x.1 v w p.0 x.2 p.1 p.2 p.3 differ.0 differ.1 (subst (λ (h : Hop). IsTrail hops A x.2 (end_of x.1 h) w) (IsHop-unique hops e parts.0 p.0 parts.1 p.1) parts.4))
      (λ (none : Contains (numbers rest.0) e → ⊥). ((e, d) ∷ rest.0, (none, rest.1), (p.0, p.1, p.2, p.3, rest.2)))
      (find_step e rest.0)

  -- ---- nodes that allowed hops join
  pub joined_on : (A : ℕ → Type 0) (v w x : ℕ) → AreJoined hops A v w → AreJoined hops A w x → AreJoined hops A v x
  joined_on A v w x p q = (p.0 ++ q.0, trail_append A p.0 q.0 v w x p.1 q.1)

  pub joined_by : (A B : ℕ → Type 0) (v w : ℕ) → ((k : ℕ) → A k → B k) → AreJoined hops A v w → AreJoined hops B v w
  joined_by A B v w by p = (p.0, trail_by A B p.0 v w (λ k c a. by k a) p.1)

  pub joined_turned : (A : ℕ → Type 0) (v w : ℕ) → AreJoined hops A v w → AreJoined hops A w v
  joined_turned A v w p = joined_back A p.0 v w p.1

  pub joined_along : (A : ℕ → Type 0) (e : ℕ) (hop : Hop) → IsHop hops e hop → A e → AreJoined hops A hop.tail hop.head
  joined_along A e hop is allowed = ((e, true) ∷ [], (hop, is, allowed, refl, refl))
