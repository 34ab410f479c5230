-- Tight links form a forest exactly where none of them closes a cycle with those before it.
use Rattle.std.proofs.Common.{◌≡◌, ◌≢◌, ℕ, zero, suc, ◌<◌, Bool, true, false, List, ◌∷◌, ◌++◌, length, ⊎_elim, Some, refl, subst, arith, Contains}
use Rattle.nf_pattern.proofs.Common.{slice_get_within, Tight, Hop, IsHop, Pattern, HasState, IsTrail, AllDiffer, IsForest, AreJoined, TightBefore, Closes}
use Rattle.nf_pattern.proofs.Trails.{Steps, numbers, start_of, end_of, find_step, differ_front, differ_back, trail_append, trail_split, trail_allows}
use Rattle.nf_pattern.proofs.Trails.{trail_by, joined_back, shorten}

module _ (hops : List Hop) where
  -- one allowed hop more
  module _ (A B : ℕ → Type 0) (n : ℕ) (forest : IsForest hops A) (others : (e : ℕ) → e ≢ n → B e → A e)
      (apart : B n → (hop : Hop) → IsHop hops n hop → AreJoined hops A hop.head hop.tail → ⊥) where
    avoiding : (s : Steps) (v w : ℕ) → (Contains (numbers s) n → ⊥) → IsTrail hops B s v w → IsTrail hops A s v w
    avoiding s v w none p = trail_by hops B A s v w (λ k c b. others k (λ (same : k ≡ n). none (subst (λ (m : ℕ). Contains (numbers s) m) same c)) b) p

    not_round : (d : Bool) (hop : Hop) → B n → IsHop hops n hop → AreJoined hops A (end_of d hop) (start_of d hop) → ⊥
    not_round true hop b p joined = apart b hop p joined
    not_round false hop b p joined = apart b hop p (joined_back hops A joined.0 hop.tail hop.head joined.1)

    cut_open : (front back : Steps) (d : Bool) (v : ℕ) → AllDiffer (numbers (front ++ (n, d) ∷ back)) → IsTrail hops B (front ++ (n, d) ∷ back) v v → ⊥
    cut_open front back d v differ p =
        let parts = trail_split hops B front back n d v v p in
        not_round d parts.0 parts.2 parts.1 (
          back ++ front,
          trail_append hops A back front (end_of d parts.0) v (start_of d parts.0)
              (avoiding back (end_of d parts.0) v (differ_back front back n d differ).0 parts.4)
              (avoiding front v (start_of d parts.0) (differ_front front back n d differ) parts.3),
        )

    pub forest_more : IsForest hops B
    forest_more first steps v differ p = ⊎_elim
        (λ (x : (front : Steps) × (forward : Bool) × (back : Steps) × (first ∷ steps ≡ front ++ (n, forward) ∷ back)).
        cut_open x.0 x.2 x.1 v (subst (λ (s : Steps). AllDiffer (numbers s)) x.3 differ) (subst (λ (s : Steps). IsTrail hops B s v v) x.3 p))
        (λ (none : Contains (numbers (first ∷ steps)) n → ⊥). forest first steps v differ (avoiding (first ∷ steps) v v none p))
        (find_step n (first ∷ steps))

  forest_fewer : (A B : ℕ → Type 0) → ((e : ℕ) → B e → A e) → IsForest hops A → IsForest hops B
  forest_fewer A B by forest first steps v differ p = forest first steps v differ (trail_by hops B A (first ∷ steps) v v (λ k c b. by k b) p)

  module _ (pattern : Pattern) where
    none_before : (e : ℕ) → TightBefore pattern 0 e → ⊥
    none_before e t = let l = t.0 in omega arith

    pub forest_before : (n : ℕ) → ((e : ℕ) → e < n → Closes hops pattern e → ⊥) → IsForest hops (TightBefore pattern n)
    forest_before zero clear = λ first steps v differ p. none_before (first.0) (trail_allows hops (TightBefore pattern 0) (first ∷ steps) v v first.0 p (zero, omega arith, refl))
    forest_before (suc n) clear = forest_more (TightBefore pattern n) (TightBefore pattern (suc n)) n (forest_before n (λ e less. clear e (omega arith)))
        (λ e other t. (let l = t.0 in omega arith, t.1))
        (λ t hop p joined. clear n (omega arith) (t.1, record { hop = hop; is_hop = p; joined = joined }))

    pub is_forest : ((e : ℕ) → Closes hops pattern e → ⊥) → IsForest hops (λ e. HasState pattern e Tight)
    is_forest clear = forest_fewer (TightBefore pattern (length pattern)) (λ e. HasState pattern e Tight) (λ e t. (slice_get_within pattern e (Some Tight) t, t))
        (forest_before (length pattern) (λ e less. clear e))

    pub no_forest : (e : ℕ) → Closes hops pattern e → IsForest hops (λ k. HasState pattern k Tight) → ⊥
    no_forest e closes forest =
        let short = shorten hops (TightBefore pattern e) closes.1.joined.0 closes.1.hop.head closes.1.hop.tail closes.1.joined.1 in
        forest (e, true) short.0 closes.1.hop.tail (
          λ (c : Contains (numbers short.0) e). let t = trail_allows hops (TightBefore pattern e) short.0 closes.1.hop.head closes.1.hop.tail e short.2 c in
              let l = t.0 in omega arith,
          short.1,
        ) (
          closes.1.hop,
          closes.1.is_hop,
          closes.0,
          refl,
          trail_by hops (TightBefore pattern e)
              (λ k. HasState pattern k Tight) short.0 closes.1.hop.head closes.1.hop.tail (λ k c t. t.1) short.2,
        )

    pub closing_below : (e : ℕ) → Closes hops pattern e → e < length hops
    closing_below e closes = slice_get_within hops e closes.1.hop closes.1.is_hop
