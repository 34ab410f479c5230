-- Least transit sums exist: nodes are settled one by one, each time at the cheapest hop that leads out of the settled ones.
use Rattle.std.proofs.Common.{◌≡◌, ℕ, zero, suc, ◌+◌, ◌<◌, ◌≤◌, ◌⊎◌, ◌==◌, ◌&&◌, ◌||◌, ◌++◌, Bool, true, false, not, if◌then◌else◌, List, [], ◌∷◌, length}
use Rattle.std.proofs.Common.{slice_get, Some, refl, sym, ◌∙◌, ap, subst, inl, inr, arith}
use Rattle.nf_net_laws.proofs.Common.{AllByRecursion, list_all, and_parts, eqb-true, eq-eqb, or_left, or_right, ℚ, 0ℚ, ◌+ℚ◌, ◌≤ℚ◌, reading_of, lt_or_le_ℚ}
use Rattle.nf_net_laws.proofs.Common.{≤ℚ_of_lt, ≤ℚ_of_same, le, eq, linear_le, linear_eq, Hop, IsHop, IsWalk, transit_of, transit_sum, IsLeastTransit}
use Rattle.nf_net_laws.proofs.Common.{transit_of-hop}
use Rattle.nf_net_laws.proofs.WalkFacts.{walk_push, entry_all, transit_sum_nn}
use Rattle.nf_net_laws.proofs.Reaching.{heads_in, at_most_all, stays_in, one_more_head, stays_closed}
use Rattle.nf_rational_laws.proofs.Chains.{≤ℚ_trans}

module _ (hops : List Hop) (positive : (e : ℕ) (hop : Hop) → IsHop hops e hop → 0ℚ ≤ℚ hop.transit) (u : ℕ) where
  -- some nodes, with their least transit sums
  pub record Settled : Type 0 where
    pub set : ℕ → Bool
    pub label : ℕ → ℚ
    pub start : set u ≡ true
    pub least : (v : ℕ) → set v ≡ true → IsLeastTransit hops u v (label v)

  sum_push : (walk : List ℕ) (e : ℕ) (hop : Hop) → IsHop hops e hop → transit_sum hops (walk ++ e ∷ []) ≡ transit_sum hops walk +ℚ hop.transit
  sum_push [] e hop is =
      let t : transit_of hops e ≡ hop.transit = transit_of-hop hops e hop is in
      linear_eq (transit_of hops e ∷ hop.transit ∷ []) (eq t ∷ []) (search reading_of) tt tt
  sum_push (f ∷ walk) e hop is =
      let t : transit_sum hops (walk ++ e ∷ []) ≡ transit_sum hops walk +ℚ hop.transit = sum_push walk e hop is in
      linear_eq (transit_of hops f ∷ transit_sum hops (walk ++ e ∷ []) ∷ transit_sum hops walk ∷ hop.transit ∷ []) (eq t ∷ []) (search reading_of) tt tt

  module _ (s : Settled) where
    cost : Hop → ℚ
    cost h = s.label h.tail +ℚ h.transit

    -- the cheapest of some hops that lead out
    record Cheapest (rest : List Hop) : Type 0 where
      pub place : ℕ
      pub hop : Hop
      pub is_hop : slice_get rest place ≡ Some hop
      pub tail : s.set hop.tail ≡ true
      pub head : s.set hop.head ≡ false
      pub least : AllByRecursion (λ h. s.set h.tail ≡ true → s.set h.head ≡ false → cost hop ≤ℚ cost h) rest

    -- no hop leads out of these
    contradict : (a b : Bool) → (not a || b) ≡ true → a ≡ true → b ≡ false → ⊥
    contradict true b e f g = absurd (cc)
    contradict false b e f g = absurd (cc)

    none_out : (bound : ℚ) (others : List Hop) → list_all (stays_in s.set) others ≡ true → AllByRecursion (λ g. s.set g.tail ≡ true → s.set g.head ≡ false → bound ≤ℚ cost g) others
    none_out bound [] e = tt
    none_out bound (g ∷ others) e =
        let p = and_parts (stays_in s.set g) (list_all (stays_in s.set) others) e in
        ((λ f k. absurd (contradict (s.set g.tail) (s.set g.head) p.0 f k)), none_out bound others p.1)

    weaker : (low high : ℚ) (others : List Hop) → low ≤ℚ high → AllByRecursion (λ g. s.set g.tail ≡ true → s.set g.head ≡ false → high ≤ℚ cost g) others
        → AllByRecursion (λ g. s.set g.tail ≡ true → s.set g.head ≡ false → low ≤ℚ cost g) others
    weaker low high [] h k = tt
    weaker low high (g ∷ others) h k = ((λ e f. ≤ℚ_trans low high (cost g) h (k.0 e f)), weaker low high others h k.1)

    behind : (h : Hop) (rest : List Hop) → (s.set h.tail ≡ true → s.set h.head ≡ false → ⊥) → Cheapest rest → Cheapest (h ∷ rest)
    behind h rest no_cross c = record {
      place = suc c.place;
      hop = c.hop;
      is_hop = c.is_hop;
      tail = c.tail;
      head = c.head;
      least = ((λ e f. absurd (no_cross e f)), c.least);
    }

    -- this hop leads out
    joined : (h : Hop) (rest : List Hop) → s.set h.tail ≡ true → s.set h.head ≡ false → (list_all (stays_in s.set) rest ≡ true) ⊎ Cheapest rest → Cheapest (h ∷ rest)
    joined h rest e f (inl stay) = record { place = 0; hop = h; is_hop = refl; tail = e; head = f; least = ((λ _ _. ≤ℚ_of_same (cost h) (cost h) refl), none_out (cost h) rest stay) }
    joined h rest e f (inr c) = elim (lt_or_le_ℚ (cost h) (cost c.hop)) [
      | inl less ↦ record {
        place = 0;
        hop = h;
        is_hop = refl;
        tail = e;
        head = f;
        least = ((λ _ _. ≤ℚ_of_same (cost h) (cost h) refl), weaker (cost h) (cost c.hop) rest (≤ℚ_of_lt (cost h) (cost c.hop) less) c.least);
      }
      | inr more ↦ record { place = suc c.place; hop = c.hop; is_hop = c.is_hop; tail = c.tail; head = c.head; least = ((λ _ _. more), c.least) }
    ]

    with_hop : (h : Hop) (rest : List Hop) (a b : Bool) → s.set h.tail ≡ a → s.set h.head ≡ b → (list_all (stays_in s.set) rest ≡ true) ⊎ Cheapest rest
        → (((not a || b) && list_all (stays_in s.set) rest) ≡ true) ⊎ Cheapest (h ∷ rest)
    with_hop h rest true false e f r = inr (joined h rest e f r)
    with_hop h rest true true e f (inl stay) = inl stay
    with_hop h rest true true e f (inr c) = inr (behind h rest (λ k j. absurd (cc)) c)
    with_hop h rest false b e f (inl stay) = inl stay
    with_hop h rest false b e f (inr c) = inr (behind h rest (λ k j. absurd (cc)) c)

    cheapest : (rest : List Hop) → (list_all (stays_in s.set) rest ≡ true) ⊎ Cheapest rest
    cheapest [] = inl refl
    cheapest (h ∷ rest) = with_hop h rest (s.set h.tail) (s.set h.head) refl refl (cheapest rest)

    -- a walk from the source that leads out costs no less than the hop on which it does
    leaving : (c : Cheapest hops) (front walk : List ℕ) (a b e : ℕ) (h : Hop) → IsWalk hops front u a → s.set a ≡ true → IsHop hops e h → h.tail ≡ a
        → IsWalk hops walk h.head b → (inside : Bool) → s.set h.head ≡ inside
        → (s.set h.head ≡ true → cost c.hop ≤ℚ (transit_sum hops (front ++ e ∷ []) +ℚ transit_sum hops walk))
        → cost c.hop ≤ℚ (transit_sum hops front +ℚ (transit_of hops e +ℚ transit_sum hops walk))
    unfolding cost
    leaving c front walk a b e h w here is from rest true f later =
        let t : transit_of hops e ≡ h.transit = transit_of-hop hops e h is in
        let p : transit_sum hops (front ++ e ∷ []) ≡ transit_sum hops front +ℚ h.transit = sum_push front e h is in
        let k : cost c.hop ≤ℚ (transit_sum hops (front ++ e ∷ []) +ℚ transit_sum hops walk) = later f in
        linear_le (cost c.hop ∷ transit_sum hops (front ++ e ∷ []) ∷ transit_sum hops front ∷ transit_sum hops walk ∷ transit_of hops e ∷ h.transit ∷ [])
        (eq t ∷ eq p ∷ le k ∷ []) (search reading_of) tt
    leaving c front walk a b e h w here is from rest false f later =
        let t : transit_of hops e ≡ h.transit = transit_of-hop hops e h is in
        let tail : s.set h.tail ≡ true = ap s.set from ∙ here in
        let k : cost c.hop ≤ℚ (s.label h.tail +ℚ h.transit) = entry_all (λ g. s.set g.tail ≡ true → s.set g.head ≡ false → cost c.hop ≤ℚ cost g) hops e h c.least is tail f in
        let j : s.label h.tail ≤ℚ transit_sum hops front = (s.least h.tail tail).bound front (subst (IsWalk hops front u) (sym from) w) in
        let n : 0ℚ ≤ℚ transit_sum hops walk = transit_sum_nn hops positive walk h.head b rest in
        linear_le (cost c.hop ∷ s.label h.tail ∷ transit_sum hops front ∷ transit_sum hops walk ∷ transit_of hops e ∷ h.transit ∷ [])
        (eq t ∷ le k ∷ le j ∷ le n ∷ []) (search reading_of) tt

    leads_out : (c : Cheapest hops) (front walk : List ℕ) (a b : ℕ) → IsWalk hops front u a → s.set a ≡ true → IsWalk hops walk a b → s.set b ≡ false
        → cost c.hop ≤ℚ (transit_sum hops front +ℚ transit_sum hops walk)
    leads_out c front [] a b w here h out = absurd (let k : s.set b ≡ true = ap s.set (sym h) ∙ here in cc)
    leads_out c front (e ∷ walk) a b w here h out =
        leaving c front walk a b e h.0 w here h.1 h.2 h.3 (s.set h.0.head) refl
        (λ f. leads_out c (front ++ e ∷ []) walk h.0.head b (walk_push hops front u a e h.0 w h.1 h.2) f h.3 out)

    -- ---- one node more
    settled_at : (c : Cheapest hops) → IsLeastTransit hops u c.hop.head (cost c.hop)
    unfolding cost
    settled_at c =
        let to : IsLeastTransit hops u c.hop.tail (s.label c.hop.tail) = s.least c.hop.tail c.tail in
        record {
          taken = (
            to.taken.0 ++ c.place ∷ [],
            walk_push hops to.taken.0 u c.hop.tail c.place c.hop to.taken.1 c.is_hop refl,
            sum_push to.taken.0 c.place c.hop c.is_hop ∙ (λ i. to.taken.2 i +ℚ c.hop.transit),
          );
          bound = λ walk w. (let k : cost c.hop ≤ℚ (0ℚ +ℚ transit_sum hops walk) = leads_out c [] walk u c.hop.head refl s.start w c.head in
              linear_le (cost c.hop ∷ transit_sum hops walk ∷ []) (le k ∷ []) (search reading_of) tt);
        }

    more_set : Cheapest hops → ℕ → Bool
    more_set c v = s.set v || (c.hop.head == v)

    more_label : Cheapest hops → ℕ → ℚ
    more_label c v = if c.hop.head == v then cost c.hop else s.label v

    least_more : (c : Cheapest hops) (v : ℕ) (same : Bool) → (c.hop.head == v) ≡ same → (s.set v || same) ≡ true → IsLeastTransit hops u v (if same then cost c.hop else s.label v)
    least_more c v true e h = subst (λ x. IsLeastTransit hops u x (cost c.hop)) (eqb-true c.hop.head v e) (settled_at c)
    least_more c v false e h = s.least v (or_first (s.set v) h)
      where
        or_first : (b : Bool) → (b || false) ≡ true → b ≡ true
        or_first true f = refl
        or_first false f = f

    settle : Cheapest hops → Settled
    unfolding more_set more_label
    settle c = record {
      set = more_set c;
      label = more_label c;
      start = or_left (s.set u) (c.hop.head == u) s.start;
      least = λ v h. least_more c v (c.hop.head == v) refl h;
    }

    more_heads : (c : Cheapest hops) → suc (heads_in s.set hops) ≤ heads_in (more_set c) hops
    unfolding more_set
    more_heads c = one_more_head s.set (more_set c) (λ v h. or_left (s.set v) (c.hop.head == v) h) hops c.place c.hop c.is_hop c.head
        (or_right (s.set c.hop.head) (c.hop.head == c.hop.head) (eq-eqb c.hop.head c.hop.head refl))

  -- ---- until no hop leads out
  pub record AllSettled : Type 0 where
    pub settled : Settled
    pub closed : list_all (stays_in settled.set) hops ≡ true

  settle_all : (fuel : ℕ) (s : Settled) → length hops < fuel + heads_in s.set hops → AllSettled
  unfolding settle
  settle_all zero s room = let most : heads_in s.set hops ≤ length hops = at_most_all s.set hops in absurd (omega arith)
  settle_all (suc fuel) s room = elim (cheapest s hops) [
    | inl stay ↦ record { settled = s; closed = stay }
    | inr c ↦ settle_all fuel (settle s c) (let k : suc (heads_in s.set hops) ≤ heads_in (more_set s c) hops = more_heads s c in omega arith)
  ]

  at_itself : IsLeastTransit hops u u 0ℚ
  at_itself = record { taken = ([], refl, refl); bound = λ walk w. transit_sum_nn hops positive walk u u w }

  source_settled : Settled
  source_settled = record {
    set = λ v. u == v;
    label = λ v. 0ℚ;
    start = eq-eqb u u refl;
    least = λ v h. subst (λ x. IsLeastTransit hops u x 0ℚ) (eqb-true u v h) at_itself;
  }

  pub all_settled : AllSettled
  all_settled = settle_all (suc (length hops)) source_settled (omega arith)

  -- where a walk leads to a node, it has a least transit sum
  pub least_exists : (v : ℕ) (walk : List ℕ) → IsWalk hops walk u v → (least : ℚ) × IsLeastTransit hops u v least
  least_exists v walk w =
      let inside : all_settled.settled.set v ≡ true = stays_closed hops all_settled.settled.set all_settled.closed walk u v all_settled.settled.start w in
      (all_settled.settled.label v, all_settled.settled.least v inside)
