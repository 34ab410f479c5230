-- Reversed trails.
use Rattle.std.proofs.Common.{◌≡◌, ◌≢◌, ℕ, suc, ◌+◌, ◌<◌, List, [], ◌∷◌, length, get_or, drop, add-one, drop-cons, ◌⊎◌, inl, inr, ⊎_elim, Bool, true, false}
use Rattle.std.proofs.Common.{not, if◌then◌else◌, eqb, Option, Some, None, sym, ap, subst, refl, ◌∙◌, arith, Contains}
use Rattle.nf_complete_cycles.proofs.Common.{eqb_tells, Hop, IsTrail, AllDiffer, links_of, turn_of, round_onto, lower_step, lowest_from, contains_cases}
use Rattle.nf_complete_cycles.proofs.Common.{contains_more, contains_first}

-- one step more is turned
pub round_more : (steps done next : List (ℕ × Bool)) (i : ℕ) (step turned : ℕ × Bool) → i < length steps → step ≡ get_or steps i step
    → turned ≡ (step.0, not step.1) → next ≡ turned ∷ done
    → round_onto done (drop i steps) ≡ round_onto [] steps → round_onto next (drop (i + 1) steps) ≡ round_onto [] steps
round_more steps done next i step turned h is t n so =
    let first : drop i steps ≡ step ∷ drop (i + 1) steps = rw (add-one, drop-cons steps i step) (ap (λ (s : ℕ × Bool). s ∷ drop (suc i) steps) (sym is)) in
    ap (λ (l : List (ℕ × Bool)). round_onto l (drop (i + 1) steps)) (n ∙ ap (λ (s : ℕ × Bool). s ∷ done) t) ∙ (sym (ap (round_onto done) first) ∙ so)

-- and one step more is compared
pub lowest_more : (steps : List (ℕ × Bool)) (best : Option (ℕ × Bool)) (i : ℕ) (step low : ℕ × Bool) → i < length steps → step ≡ get_or steps i step → low ≡ lower_step best step
    → lowest_from best (drop i steps) ≡ lowest_from None steps → lowest_from (Some low) (drop (i + 1) steps) ≡ lowest_from None steps
lowest_more steps best i step low h is l so =
    let first : drop i steps ≡ step ∷ drop (i + 1) steps = rw (add-one, drop-cons steps i step) (ap (λ (s : ℕ × Bool). s ∷ drop (suc i) steps) (sym is)) in
    ap (λ (s : ℕ × Bool). lowest_from (Some s) (drop (i + 1) steps)) l ∙ (sym (ap (lowest_from best) first) ∙ so)

flip_first : (b : Bool) (g : Hop) → (if b then g.head else g.tail) ≡ (if not b then g.tail else g.head)
flip_first true g = refl
flip_first false g = refl

flip_next : (b : Bool) (g : Hop) → (if b then g.tail else g.head) ≡ (if not b then g.head else g.tail)
flip_next true g = refl
flip_next false g = refl

module _ (hops : List Hop) (Allowed : ℕ → Type 0) where
  pub round-trail : (steps done : List (ℕ × Bool)) (m v w : ℕ) → IsTrail hops Allowed steps m w → IsTrail hops Allowed done m v → IsTrail hops Allowed (round_onto done steps) w v
  round-trail [] done m v w t d = subst (λ (k : ℕ). IsTrail hops Allowed done k v) t d
  round-trail (s ∷ steps) done m v w (g, p, a, at, t) d = round-trail steps ((s.0, not s.1) ∷ done) (if s.1 then g.head else g.tail) v w t
      (g, p, a, flip_first s.1 g, subst (λ (k : ℕ). IsTrail hops Allowed done k v) (at ∙ flip_next s.1 g) d)

-- its links are those of the trail, and those that were there
pub round-contains : (steps done : List (ℕ × Bool)) (e : ℕ) → Contains (links_of (round_onto done steps)) e → Contains (links_of done) e ⊎ Contains (links_of steps) e
round-contains [] done e c = inl c
round-contains (s ∷ steps) done e c = ⊎_elim
    (λ (h : Contains (s.0 ∷ links_of done) e). ⊎_elim (λ (q : s.0 ≡ e). inr (contains_first s.0 (links_of steps) e q))
    (λ (q : Contains (links_of done) e). inl q) (contains_cases s.0 (links_of done) e h))
    (λ (h : Contains (links_of steps) e). inr (contains_more s.0 (links_of steps) e h))
    (round-contains steps ((s.0, not s.1) ∷ done) e c)

pub contains-round_done : (steps done : List (ℕ × Bool)) (e : ℕ) → Contains (links_of done) e → Contains (links_of (round_onto done steps)) e
contains-round_done [] done e c = c
contains-round_done (s ∷ steps) done e c = contains-round_done steps ((s.0, not s.1) ∷ done) e (contains_more s.0 (links_of done) e c)

pub contains-round : (steps done : List (ℕ × Bool)) (e : ℕ) → Contains (links_of steps) e → Contains (links_of (round_onto done steps)) e
contains-round [] done e (k, h, q) = absurd (omega arith)
contains-round (s ∷ steps) done e c = ⊎_elim
    (λ (q : s.0 ≡ e). contains-round_done steps ((s.0, not s.1) ∷ done) e (contains_first s.0 (links_of done) e q))
    (λ (q : Contains (links_of steps) e). contains-round steps ((s.0, not s.1) ∷ done) e q)
    (contains_cases s.0 (links_of steps) e c)

pub round-differ : (steps done : List (ℕ × Bool)) → AllDiffer (links_of steps) → AllDiffer (links_of done)
    → ((e : ℕ) → Contains (links_of steps) e → Contains (links_of done) e → ⊥) → AllDiffer (links_of (round_onto done steps))
round-differ [] done d f n = f
round-differ (s ∷ steps) done d f n = round-differ steps ((s.0, not s.1) ∷ done) d.1
    ((λ c. n s.0 (contains_first s.0 (links_of steps) s.0 refl) c), f)
    (λ e c k. ⊎_elim (λ (q : s.0 ≡ e). d.0 (subst (λ (i : ℕ). Contains (links_of steps) i) (sym q) c))
    (λ (q : Contains (links_of done) e). n e (contains_more s.0 (links_of steps) e c) q) (contains_cases s.0 (links_of done) e k))

-- ---- each link is used in the opposite direction
pub turn-same : (f : ℕ) (b : Bool) (steps : List (ℕ × Bool)) (e : ℕ) → f ≡ e → turn_of ((f, b) ∷ steps) e ≡ Some b
turn-same f b steps e q = ⊎_elim
    (λ (w : (eqb f e ≡ true) × (f ≡ e)). ap (λ (t : Bool). if t then Some b else turn_of steps e) w.0)
    (λ (w : (eqb f e ≡ false) × (f ≢ e)). absurd (w.1 q))
    (eqb_tells f e)

pub turn-other : (f : ℕ) (b : Bool) (steps : List (ℕ × Bool)) (e : ℕ) → (f ≡ e → ⊥) → turn_of ((f, b) ∷ steps) e ≡ turn_of steps e
turn-other f b steps e n = ⊎_elim
    (λ (w : (eqb f e ≡ true) × (f ≡ e)). absurd (n w.1))
    (λ (w : (eqb f e ≡ false) × (f ≢ e)). ap (λ (t : Bool). if t then Some b else turn_of steps e) w.0)
    (eqb_tells f e)

round-turn_done : (steps done : List (ℕ × Bool)) (e : ℕ) → (Contains (links_of steps) e → ⊥) → turn_of (round_onto done steps) e ≡ turn_of done e
round-turn_done [] done e n = refl
round-turn_done (s ∷ steps) done e n =
    round-turn_done steps ((s.0, not s.1) ∷ done) e (λ c. n (contains_more s.0 (links_of steps) e c)) ∙ turn-other s.0 (not s.1) done e (λ q. n (contains_first s.0 (links_of steps) e q))

pub round-turn : (steps done : List (ℕ × Bool)) (e : ℕ) (b : Bool) → AllDiffer (links_of steps) → turn_of steps e ≡ Some b → turn_of (round_onto done steps) e ≡ Some (not b)
round-turn [] done e b d h = absurd (cc)
round-turn (s ∷ steps) done e b d h = ⊎_elim
    (λ (w : (eqb s.0 e ≡ true) × (s.0 ≡ e)).
    round-turn_done steps ((s.0, not s.1) ∷ done) e (λ c. d.0 (subst (λ (i : ℕ). Contains (links_of steps) i) (sym w.1) c))
    ∙ turn-same s.0 (not s.1) done e w.1 ∙ ap (λ (t : Bool). Some (not t)) (same_some s.1 b (sym (turn-same s.0 s.1 steps e w.1) ∙ h)))
    (λ (w : (eqb s.0 e ≡ false) × (s.0 ≢ e)). round-turn steps ((s.0, not s.1) ∷ done) e b d.1 (sym (turn-other s.0 s.1 steps e w.1) ∙ h))
    (eqb_tells s.0 e)
  where
    same_some : (a b : Bool) → Some a ≡ Some b → a ≡ b
    same_some a b e = cc
