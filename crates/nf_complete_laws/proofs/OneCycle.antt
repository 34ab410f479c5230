-- The next cycle is unique. Two next cycles close with the same link. The difference of their flows balances at each node and uses only
-- links before that link, which form a forest.
use Rattle.std.proofs.Common.{◌≡◌, ◌≢◌, ℕ, zero, suc, ◌<◌, ◌≤◌, List, [], ◌∷◌, ⊎_elim, Bool, true, false, if◌then◌else◌, eqb, Option, Some, None, sym, ap}
use Rattle.std.proofs.Common.{subst, refl, ◌∙◌, arith, Contains}
use Rattle.nf_complete_laws.proofs.Common.{cases_lt, eqb_tells, ℚ, 0ℚ, 1ℚ, ◌+ℚ◌, ◌-ℚ◌, ◌*ℚ◌, reading_of, ≤ℚ_of_same, not_both_ℚ, eq, eq_times, linear_eq}
use Rattle.nf_complete_laws.proofs.Common.{linear_false, Hop, Link, Network, IsLink, IsNetwork, hops, Sets, IsTrail, AllDiffer, out_less_in, sum_in-line}
use Rattle.nf_complete_laws.proofs.Common.{sum_out-line, contains_more, contains_first, IsInterior, links_of, turn_of, IsNextCycle, Carries, forest-none}
use Rattle.nf_complete_laws.proofs.Trails.{signed, carried_by, turn-contains, trail-allowed, carried-closed}
use Rattle.nf_complete_laws.proofs.Deciding.{same_or_not}

pub weaker : (hops : List Hop) (Allowed Other : ℕ → Type 0) (steps : List (ℕ × Bool)) (v w : ℕ) → IsTrail hops Allowed steps v w
    → ((e : ℕ) → Contains (links_of steps) e → Allowed e → Other e) → IsTrail hops Other steps v w
weaker hops Allowed Other [] v w t f = t
weaker hops Allowed Other ((e, b) ∷ steps) v w (g, p, a, at, t) f =
    (g, p, f e (contains_first e (links_of steps) e refl) a, at, weaker hops Allowed Other steps _ w t (λ k c. f k (contains_more e (links_of steps) k c)))

-- a link that is contained is taken in one direction
taken_by : (steps : List (ℕ × Bool)) (e : ℕ) → Contains (links_of steps) e → (b : Bool) × (turn_of steps e ≡ Some b)
taken_by [] e (k, h, q) = absurd (omega arith)
taken_by ((f, b) ∷ steps) e c = ⊎_elim
    (λ (w : (eqb f e ≡ true) × (f ≡ e)). (b, ap (λ (t : Bool). if t then Some b else turn_of steps e) w.0))
    (λ (w : (eqb f e ≡ false) × (f ≢ e)). let r = taken_by steps e (rest w.1 c) in (r.0, ap (λ (t : Bool). if t then Some b else turn_of steps e) w.0 ∙ r.1))
    (eqb_tells f e)
  where
    rest : (f ≡ e → ⊥) → Contains (f ∷ links_of steps) e → Contains (links_of steps) e
    rest n (zero, h, q) = absurd (n q)
    rest n (suc k, h, q) = (k, omega arith, q)

-- the flow carried determines the direction
same_turn : (a b : Option Bool) → signed a ≡ signed b → a ≡ b
same_turn None None e = refl
same_turn None (Some true) e = absurd (linear_false [] (eq e ∷ []) (search reading_of) tt)
same_turn None (Some false) e = absurd (linear_false [] (eq e ∷ []) (search reading_of) tt)
same_turn (Some true) None e = absurd (linear_false [] (eq e ∷ []) (search reading_of) tt)
same_turn (Some true) (Some true) e = refl
same_turn (Some true) (Some false) e = absurd (linear_false [] (eq e ∷ []) (search reading_of) tt)
same_turn (Some false) None e = absurd (linear_false [] (eq e ∷ []) (search reading_of) tt)
same_turn (Some false) (Some true) e = absurd (linear_false [] (eq e ∷ []) (search reading_of) tt)
same_turn (Some false) (Some false) e = refl

module _ (net : Network) (sets : Sets) (slopes flows : List ℚ) (good : IsNetwork net) where
  abbrev Interior : ℕ → Type 0
  Interior = IsInterior net sets slopes flows

  -- a cycle whose links come before a link is none of a forest of those before
  not_before : (steps others : List (ℕ × Bool)) (s : IsNextCycle net sets slopes flows steps) (t : IsNextCycle net sets slopes flows others) → s.last < t.last → ⊥
  not_before steps others s t h = t.before s.cycle.first s.cycle.rest s.cycle.start
      (subst (λ (l : List (ℕ × Bool)). AllDiffer (links_of l)) s.cycle.steps_are s.cycle.differ)
      (subst (λ (l : List (ℕ × Bool)). IsTrail (hops net) (λ e. (e < t.last) × Interior e) l s.cycle.start s.cycle.start) s.cycle.steps_are
      (weaker (hops net) Interior (λ e. (e < t.last) × Interior e) steps s.cycle.start s.cycle.start s.cycle.trail (λ e c i. (below (s.highest e c), i))))
    where
      below : {e : ℕ} → e ≤ s.last → e < t.last
      below k = omega arith

  module _ (steps others : List (ℕ × Bool)) (s : IsNextCycle net sets slopes flows steps) (t : IsNextCycle net sets slopes flows others) where
    same_last : s.last ≡ t.last
    same_last = ⊎_elim
        (λ (h : s.last < t.last). absurd (not_before steps others s t h))
        (λ (h : t.last ≤ s.last). ⊎_elim
        (λ (k : t.last < s.last). absurd (not_before others steps t s k))
        (λ (k : s.last ≤ t.last). omega arith)
        (cases_lt t.last s.last))
        (cases_lt s.last t.last)

    interior : (e : ℕ) (b : Bool) → turn_of steps e ≡ Some b → Interior e
    interior e b h = trail-allowed (hops net) Interior steps s.cycle.start s.cycle.start e b s.cycle.trail h

    interior_other : (e : ℕ) (b : Bool) → turn_of others e ≡ Some b → Interior e
    interior_other e b h = trail-allowed (hops net) Interior others t.cycle.start t.cycle.start e b t.cycle.trail h

    -- the flow of one cycle plus a multiple of the flow of the other
    module _ (by : ℚ) (level : carried_by steps s.last +ℚ carried_by others s.last *ℚ by ≡ 0ℚ) where
      abbrev mixed : ℕ → ℚ
      mixed e = carried_by steps e +ℚ carried_by others e *ℚ by

      both_none : (x y : ℚ) → x ≡ 0ℚ → y ≡ 0ℚ → x +ℚ y *ℚ by ≡ 0ℚ
      both_none x y h k = linear_eq (x ∷ y ∷ by ∷ []) (eq h ∷ eq_times by k ∷ []) (search reading_of) tt tt

      -- a link on which the combined flow is not 0 is interior, and comes before the last
      inside : (e : ℕ) → (mixed e ≡ 0ℚ → ⊥) → (e < s.last) × Interior e
      inside e n = by_turns (turn_of steps e) (turn_of others e) refl refl
        where
          before : e ≤ s.last → e < s.last
          before h = ⊎_elim (λ (k : e < s.last). k) (λ (k : s.last ≤ e). absurd (n (subst (λ (j : ℕ). mixed j ≡ 0ℚ) (let q : s.last ≡ e = omega arith in q) level))) (cases_lt e s.last)

          by_turns : (a b : Option Bool) → turn_of steps e ≡ a → turn_of others e ≡ b → (e < s.last) × Interior e
          by_turns (Some a) b h k = (before (s.highest e (turn-contains steps e a h)), interior e a h)
          by_turns None (Some b) h k = (before (let m = t.highest e (turn-contains others e b k) in let l = same_last in omega arith), interior_other e b k)
          by_turns None None h k = absurd (n (both_none (carried_by steps e) (carried_by others e) (ap signed h) (ap signed k)))

      not_level : (forward : Bool) (z : ℚ) → Carries net mixed forward z → z ≡ 0ℚ → ⊥
      not_level true z h e = not_both_ℚ _ _ h (≤ℚ_of_same _ _ e)
      not_level false z h e = not_both_ℚ _ _ h (≤ℚ_of_same _ _ (sym e))

      node_line : (o p i j r q : ℚ) → o ≡ p +ℚ r *ℚ by → i ≡ j +ℚ q *ℚ by → p -ℚ j ≡ 0ℚ → r -ℚ q ≡ 0ℚ → o -ℚ i ≡ 0ℚ
      node_line o p i j r q e f g h = linear_eq (o ∷ p ∷ i ∷ j ∷ r ∷ q ∷ by ∷ []) (eq e ∷ eq f ∷ eq g ∷ eq_times by h ∷ []) (search reading_of) tt tt

      balanced : (v : ℕ) → v < net.nodes → out_less_in net.links mixed v ≡ 0ℚ
      balanced v _ = node_line _ _ _ _ _ _ (sum_out-line net.links (carried_by steps) (carried_by others) by v) (sum_in-line net.links (carried_by steps) (carried_by others) by v)
          (carried-closed net Interior steps s.cycle.start s.cycle.trail s.cycle.differ v) (carried-closed net Interior others t.cycle.start t.cycle.trail t.cycle.differ v)

      mixed_none : (e : ℕ) (link : Link) → IsLink net e link → mixed e ≡ 0ℚ
      mixed_none e link p = forest-none net mixed (λ k. (k < s.last) × Interior k) s.before
          (λ k forward u v dart. inside k (not_level forward (mixed k) dart.carries)) good balanced e link p

      mixed_all : (e : ℕ) → mixed e ≡ 0ℚ
      mixed_all e = ⊎_elim (λ (z : mixed e ≡ 0ℚ). z) (λ (n : mixed e ≡ 0ℚ → ⊥). let i = (inside e n).1 in mixed_none e i.link i.is_link) (same_or_not (mixed e) 0ℚ)

    -- ---- the same direction at the last link
    same_sign : (x y : ℚ) → x ≡ y → x +ℚ y *ℚ (0ℚ -ℚ 1ℚ) ≡ 0ℚ
    same_sign x y h = linear_eq (x ∷ y ∷ []) (eq h ∷ []) (search reading_of) tt tt

    same_back : (x y : ℚ) → x +ℚ y *ℚ (0ℚ -ℚ 1ℚ) ≡ 0ℚ → x ≡ y
    same_back x y h = linear_eq (x ∷ y ∷ []) (eq h ∷ []) (search reading_of) tt tt

    same_turns : turn_of steps s.last ≡ turn_of others s.last → (e : ℕ) → turn_of steps e ≡ turn_of others e
    same_turns h e = same_turn _ _ (same_back (carried_by steps e) (carried_by others e) (mixed_all (0ℚ -ℚ 1ℚ) (same_sign _ _ (ap signed h)) e))

    -- ---- the other direction: then the lowest link would be taken in both
    turned : (e : ℕ) → signed (turn_of steps e) +ℚ signed (turn_of others e) *ℚ 1ℚ ≡ 0ℚ → turn_of steps e ≡ Some true → turn_of others e ≡ Some false
    turned e h k = same_turn (turn_of others e) (Some false) (other (signed (turn_of others e)) (subst (λ (o : Option Bool). signed o +ℚ signed (turn_of others e) *ℚ 1ℚ ≡ 0ℚ) k h))
      where
        other : (y : ℚ) → 1ℚ +ℚ y *ℚ 1ℚ ≡ 0ℚ → y ≡ 0ℚ -ℚ 1ℚ
        other y e = linear_eq (y ∷ []) (eq e ∷ []) (search reading_of) tt tt

    turned_back : (e : ℕ) → signed (turn_of steps e) +ℚ signed (turn_of others e) *ℚ 1ℚ ≡ 0ℚ → turn_of others e ≡ Some true → turn_of steps e ≡ Some false
    turned_back e h k = same_turn (turn_of steps e) (Some false) (other (signed (turn_of steps e)) (subst (λ (o : Option Bool). signed (turn_of steps e) +ℚ signed o *ℚ 1ℚ ≡ 0ℚ) k h))
      where
        other : (x : ℚ) → x +ℚ 1ℚ *ℚ 1ℚ ≡ 0ℚ → x ≡ 0ℚ -ℚ 1ℚ
        other x e = linear_eq (x ∷ []) (eq e ∷ []) (search reading_of) tt tt

    true_false : Some true ≡ Some false → ⊥
    true_false h = cc

    not_turned : carried_by steps s.last +ℚ carried_by others s.last *ℚ 1ℚ ≡ 0ℚ → ⊥
    not_turned level =
        let f : turn_of others s.lowest ≡ Some false = turned s.lowest (mixed_all 1ℚ level s.lowest) s.grows in
        let g : turn_of steps t.lowest ≡ Some false = turned_back t.lowest (mixed_all 1ℚ level t.lowest) t.grows in
        let h : t.lowest ≤ s.lowest = t.least s.lowest (turn-contains others s.lowest false f) in
        let k : s.lowest ≤ t.lowest = s.least t.lowest (turn-contains steps t.lowest false g) in
        let e : s.lowest ≡ t.lowest = omega arith in
        true_false (sym t.grows ∙ ap (turn_of others) (sym e) ∙ f)

    cancel_out : (x y : ℚ) → x ≡ 1ℚ → y ≡ 0ℚ -ℚ 1ℚ → x +ℚ y *ℚ 1ℚ ≡ 0ℚ
    cancel_out x y h k = linear_eq (x ∷ y ∷ []) (eq h ∷ eq k ∷ []) (search reading_of) tt tt

    cancel_back : (x y : ℚ) → x ≡ 0ℚ -ℚ 1ℚ → y ≡ 1ℚ → x +ℚ y *ℚ 1ℚ ≡ 0ℚ
    cancel_back x y h k = linear_eq (x ∷ y ∷ []) (eq h ∷ eq k ∷ []) (search reading_of) tt tt

    pub one_cycle : (e : ℕ) → turn_of steps e ≡ turn_of others e
    one_cycle = by a.0 b.0 a.1 b.1
      where
        a : (b : Bool) × (turn_of steps s.last ≡ Some b)
        a = taken_by steps s.last s.closes

        b : (b : Bool) × (turn_of others s.last ≡ Some b)
        b = taken_by others s.last (subst (λ (k : ℕ). Contains (links_of others) k) (sym same_last) t.closes)

        by : (x y : Bool) → turn_of steps s.last ≡ Some x → turn_of others s.last ≡ Some y → (e : ℕ) → turn_of steps e ≡ turn_of others e
        by true true h k = same_turns (h ∙ sym k)
        by false false h k = same_turns (h ∙ sym k)
        by true false h k = absurd (not_turned (cancel_out _ _ (ap signed h) (ap signed k)))
        by false true h k = absurd (not_turned (cancel_back _ _ (ap signed h) (ap signed k)))
