-- Active links hold no cycle, and none enters the source.
use Rattle.std.proofs.Common.{◌≡◌, ◌≢◌, ℕ, zero, suc, ◌<◌, List, [], ◌∷◌, map, ◌⊎◌, inl, inr, ⊎_elim, Bool, true, false, eqb, Some, sym, ap, subst, refl}
use Rattle.std.proofs.Common.{◌∙◌}
use Rattle.nf_thin_laws.proofs.Common.{less_of_test, eqb_tells, length-map, ℚ, 0ℚ, ◌+ℚ◌, ◌-ℚ◌, ◌≤ℚ◌, le_ℚ, lt_ℚ, reading_of, ≤ℚ_of_lt, test_of_le, le, eq}
use Rattle.nf_thin_laws.proofs.Common.{linear_le, plus_zero_le, number_at, Has, IsWalk, transit_sum, transit_of, Link, Network, IsNetwork, hop_of, hops}
use Rattle.nf_thin_laws.proofs.Common.{Sets, Enters, sets_at, slack, slacks_of, IsWalk-link, transit_of-is, AreSets, IsActiveWalk, HoldNoCycle}
use Rattle.nf_thin_laws.proofs.Common.{EachIsEntered, NoneEntersSource, way_back}
use Rattle.nf_model_laws.proofs.Slacks.{slack_of_active}
use Rattle.nf_model_laws.proofs.EarliestWalks.{no_loop}

-- ---- the sets of labels
-- A flag set by one test is set by the other.
weaker_flags : (strict weak : ℚ → Bool) → ((x : ℚ) → strict x ≡ true → weak x ≡ true) → (xs : List ℚ) (e : ℕ) → Has (map strict xs) e → Has (map weak xs) e
weaker_flags strict weak w [] e h = absurd (cc)
weaker_flags strict weak w (x ∷ xs) zero h = ap Some (w x (first _ h))
  where
    first : (b : Bool) → Some b ≡ Some true → b ≡ true
    first b e = cc
weaker_flags strict weak w (x ∷ xs) (suc e) h = weaker_flags strict weak w xs e h

pub AreSets-sets_at : (net : Network) (labels : List ℚ) → AreSets net (sets_at net labels)
AreSets-sets_at net labels = record {
  count = length-map (slacks_of (hops net) labels) (le_ℚ 0ℚ) ∙ length-map (hops net) (slack labels) ∙ length-map net.links hop_of;
  resetting = λ e h. weaker_flags (lt_ℚ 0ℚ) (le_ℚ 0ℚ) (λ x h. test_of_le 0ℚ x (≤ℚ_of_lt 0ℚ x (less_of_test 0ℚ x h))) (slacks_of (hops net) labels) e h;
}

-- ---- along active links, labels grow by the transit times
pub along_more : (a b c r s l : ℚ) → 0ℚ ≤ℚ b -ℚ (a +ℚ r) → s ≡ r → b +ℚ l ≤ℚ c → a +ℚ (s +ℚ l) ≤ℚ c
along_more a b c r s l h e k = linear_le (a ∷ b ∷ c ∷ r ∷ s ∷ l ∷ []) (le h ∷ eq e ∷ le k ∷ []) (search reading_of) tt

pub IsWalk-active : (net : Network) (sets : Sets) (walk : List ℕ) (v w : ℕ) → IsActiveWalk net sets walk v w → IsWalk (hops net) walk v w
IsWalk-active net sets [] v w t = t
IsWalk-active net sets (e ∷ walk) v w t = subst (λ (k : ℕ). IsWalk (hops net) (e ∷ walk) k w) t.3 (IsWalk-link net e walk w t.0 t.1 (IsWalk-active net sets walk t.0.head w t.4))

module _ (net : Network) (labels : List ℚ) where
  sum_of : (walk : List ℕ) (v w : ℕ) → IsActiveWalk net (sets_at net labels) walk v w → number_at labels v +ℚ transit_sum (hops net) walk ≤ℚ number_at labels w
  sum_of [] v w t = plus_zero_le _ _ (ap (number_at labels) t)
  sum_of (e ∷ walk) v w t = subst (λ (k : ℕ). number_at labels k +ℚ transit_sum (hops net) (e ∷ walk) ≤ℚ number_at labels w) t.3
      (along_more (number_at labels t.0.tail) (number_at labels t.0.head) _ t.0.transit (transit_of (hops net) e) (transit_sum (hops net) walk)
      (slack_of_active net labels e t.0 t.1 t.2) (transit_of-is net e t.0 t.1) (sum_of walk t.0.head w t.4))

  pub HoldNoCycle-sets_at : IsNetwork net → HoldNoCycle net (sets_at net labels)
  HoldNoCycle-sets_at good e walk v t = no_loop (number_at labels v) _ (sum_of (e ∷ walk) v v t) (good.cycles e walk v (IsWalk-active net (sets_at net labels) (e ∷ walk) v v t))

-- ---- from each node, active links lead backward to the source
module _ (net : Network) (sets : Sets) where
  abbrev pub Way : ℕ → ℕ → Type 0
  Way v w = (walk : List ℕ) × IsActiveWalk net sets walk v w

  -- One more active link before a walk.
  pub way_more : (v w e : ℕ) (link : Link) → Enters net sets v e link → Way v w → Way link.tail w
  way_more v w e link n way = (e ∷ way.0, (link, n.is_link, n.active, refl, subst (λ (k : ℕ). IsActiveWalk net sets way.0 k w) (sym n.head) way.1))

  -- No walk leads from the head of an active link to its tail.
  pub no_way_round : HoldNoCycle net sets → (v e : ℕ) (link : Link) → Enters net sets v e link → Way v link.tail → ⊥
  no_way_round acyclic v e link n way = acyclic e way.0 link.tail (link, n.is_link, n.active, refl, subst (λ (k : ℕ). IsActiveWalk net sets way.0 k link.tail) (sym n.head) way.1)

  -- A property that each node passes on backward along an active link holds at no node. Otherwise an infinite backward walk would exist.
  pub none_first : IsNetwork net → HoldNoCycle net sets → (Inside : ℕ → Type 0)
      → ((v : ℕ) → v < net.nodes → Inside v → (e : ℕ) × (link : Link) × Enters net sets v e link × Inside link.tail) → (v : ℕ) → v < net.nodes → Inside v → ⊥
  none_first good acyclic Inside back v h i = (way_back net.nodes Inside (λ _. ⊥) Way (λ v. ([], refl)) step v h i).1
    where
      step : (v : ℕ) → v < net.nodes → Inside v → ⊥ ⊎ ((u : ℕ) × (u < net.nodes) × Inside u × ((w : ℕ) → Way v w → Way u w) × (Way v u → ⊥))
      step v h i =
          let b : (e : ℕ) × (link : Link) × Enters net sets v e link × Inside link.tail = back v h i in
          inr (b.1.tail, good.tails b.0 b.1 b.2.is_link, b.3, (λ w way. way_more v w b.0 b.1 b.2 way), (λ way. no_way_round acyclic v b.0 b.1 b.2 way))

  module _ (good : IsNetwork net) (acyclic : HoldNoCycle net sets) (entered : EachIsEntered net sets) where
    back : (v : ℕ) → v < net.nodes → Unit {0} → (v ≡ net.source) ⊎ ((u : ℕ) × (u < net.nodes) × Unit {0} × ((w : ℕ) → Way v w → Way u w) × (Way v u → ⊥))
    back v h _ = ⊎_elim
        (λ (e : (eqb v net.source ≡ true) × (v ≡ net.source)). inl e.1)
        (λ (e : (eqb v net.source ≡ false) × (v ≢ net.source)).
        let b : (e : ℕ) × (link : Link) × Enters net sets v e link = entered v h e.1 in
        inr (b.1.tail, good.tails b.0 b.1 b.2.is_link, tt, (λ w way. way_more v w b.0 b.1 b.2 way), (λ way. no_way_round acyclic v b.0 b.1 b.2 way)))
        (eqb_tells v net.source)

    -- A walk along active links leads from the source to each node.
    pub active_way : (v : ℕ) → v < net.nodes → Way net.source v
    active_way v h =
        let r : (u : ℕ) × (u ≡ net.source) × Way u v = way_back net.nodes (λ _. Unit {0}) (λ u. u ≡ net.source) Way (λ v. ([], refl)) back v h tt in
        subst (λ (u : ℕ). Way u v) r.1 r.2

    pub NoneEntersSource-acyclic : NoneEntersSource net sets
    NoneEntersSource-acyclic e link n = no_way_round acyclic net.source e link n (active_way link.tail (good.tails e link n.is_link))
