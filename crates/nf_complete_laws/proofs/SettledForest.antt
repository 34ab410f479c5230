-- Tight links of the pattern of settled flows hold no cycle. The flow of a closed trail of them balances at each node. At a node without
-- inflow, the only Tight links are the one chosen to enter it and those chosen to enter further such nodes. The flow of the entering link
-- therefore continues forever along active links, which hold no cycle. So the trail uses interior links only, which hold no cycle.
use Rattle.std.proofs.Common.{◌≡◌, ◌≢◌, ℕ, ◌<◌, ◌≤◌, List, [], ◌∷◌, ◌++◌, ◌⊎◌, inl, inr, ⊎_elim, Bool, true, false, if◌then◌else◌, eqb, Option, Some, None}
use Rattle.std.proofs.Common.{sym, ap, subst, refl, ◌∙◌, arith}
use Rattle.nf_complete_laws.proofs.Common.{cases_lt, eqb_tells, ℚ, 0ℚ, ◌-ℚ◌, ◌≤ℚ◌, reading_of, ≤ℚ_of_same, not_both_ℚ, eq, linear_eq, linear_false, Tight}
use Rattle.nf_complete_laws.proofs.Common.{Full, Zero, number_at, Has, Link, Network, IsLink, IsNetwork, hops, sum_in, Sets, IsThinFlow, Pattern, HasState}
use Rattle.nf_complete_laws.proofs.Common.{IsTrail, AllDiffer, IsForest, link_at, only_at, only_at-here, only_at-else, out_less_in, sum_in-same}
use Rattle.nf_complete_laws.proofs.Common.{sum_out-same, sum_out-none, way_back, HoldNoCycle, IsActiveWalk, Way, no_way_round, IsInterior, links_of}
use Rattle.nf_complete_laws.proofs.Common.{turn_of, IsBare, LeadsToBare, IsSettledPattern, AreGoodSets, Dart, Carries, forest-none}
use Rattle.nf_complete_laws.proofs.Trails.{mark, sum_in-only, signed, carried_by, turn-first, trail-allowed, carried-closed}
use Rattle.nf_complete_laws.proofs.Deciding.{Decided, both, same_or_not, First, NoLink, first_or_none}
use Rattle.nf_complete_laws.proofs.Bare.{same_node, bare_out}
use Rattle.nf_complete_laws.proofs.Classes.{Class, led, empty, full, between, class}

-- ---- no node has a property that continues along an active link from each node that has it
module _ (net : Network) (sets : Sets) (good : IsNetwork net) (acyclic : HoldNoCycle net sets) where
  walk_more : (walk : List ℕ) (v w f : ℕ) (m : Link) → IsActiveWalk net sets walk v w → IsLink net f m → Has sets.active f → m.tail ≡ w → IsActiveWalk net sets (walk ++ f ∷ []) v m.head
  walk_more [] v w f m t p a at = (m, p, a, at ∙ sym t, refl)
  walk_more (e ∷ walk) v w f m t p a at = (t.0, t.1, t.2, t.3, walk_more walk t.0.head w f m t.4 p a at)

  abbrev pub Goes : (ℕ → Type 0) → ℕ → Type 0
  Goes Inside v = (f : ℕ) × (m : Link) × IsLink net f m × Has sets.active f × (m.tail ≡ v) × Inside m.head

  pub none_last : (Inside : ℕ → Type 0) → ((v : ℕ) → v < net.nodes → Inside v → Goes Inside v) → (v : ℕ) → v < net.nodes → Inside v → ⊥
  none_last Inside goes v h i = (way_back net.nodes Inside (λ _. ⊥) (λ v w. Way net sets w v) (λ v. ([], refl)) step v h i).1
    where
      step : (v : ℕ) → v < net.nodes → Inside v → ⊥ ⊎ ((u : ℕ) × (u < net.nodes) × Inside u × ((w : ℕ) → Way net sets w v → Way net sets w u) × (Way net sets u v → ⊥))
      step v h i =
          let g = goes v h i in
          inr (
            g.1.head,
            good.heads g.0 g.1 g.2,
            g.5,
            (λ w way. (way.0 ++ g.0 ∷ [], walk_more way.0 w v g.0 g.1 way.1 g.2 g.3 g.4)),
            (λ way. no_way_round net sets acyclic g.1.head g.0 g.1 (record { is_link = g.2; active = g.3; head = refl }) (subst (λ (k : ℕ). Way net sets g.1.head k) (sym g.4) way)),
          )

module _ (net : Network) (sets : Sets) (rate : ℚ) (flows slopes : List ℚ) (pattern : Pattern) (good : AreGoodSets net sets) (rate_nn : 0ℚ ≤ℚ rate)
    (thin : IsThinFlow net sets rate flows slopes)
    (settled : IsSettledPattern net sets flows slopes pattern) (forest : IsForest (hops net) (IsInterior net sets slopes flows)) where
  abbrev IsTight : ℕ → Type 0
  IsTight e = HasState pattern e Tight

  zero_tight : (e : ℕ) → HasState pattern e Zero → HasState pattern e Tight → ⊥
  zero_tight e h k = cc

  full_tight : (e : ℕ) → HasState pattern e Full → HasState pattern e Tight → ⊥
  full_tight e h k = cc

  tight_by : (e : ℕ) (link : Link) → IsLink net e link → IsTight e → LeadsToBare net sets flows slopes e link ⊎ IsInterior net sets slopes flows e
  tight_by e link p h = by (class net sets rate flows slopes pattern good thin settled e link p ((settled.states e).1 (Tight, h)))
    where
      by : Class net sets rate flows slopes pattern good thin settled e link → LeadsToBare net sets flows slopes e link ⊎ IsInterior net sets slopes flows e
      by (led k b) = inl b
      by (empty k z) = absurd (zero_tight e k h)
      by (full k z f) = absurd (full_tight e k h)
      by (between k i) = inr i

  -- a node without inflow is entered by one chosen link
  led_once : (e k : ℕ) (link m : Link) → LeadsToBare net sets flows slopes e link → LeadsToBare net sets flows slopes k m → m.head ≡ link.head → k < e → ⊥
  led_once e k link m a b s h = a.first.first k m h (record { is_link = b.enters.is_link; active = b.enters.active; head = s }) b.first.level

  no_flow : (e : ℕ) → IsInterior net sets slopes flows e → number_at flows e ≡ 0ℚ → ⊥
  no_flow e i z = not_both_ℚ _ _ i.some (≤ℚ_of_same _ _ z)

  module _ (first : ℕ × Bool) (rest : List (ℕ × Bool)) (v0 : ℕ) (differ : AllDiffer (links_of (first ∷ rest))) (trail : IsTrail (hops net) IsTight (first ∷ rest) v0 v0) where
    abbrev d : ℕ → ℚ
    d e = carried_by (first ∷ rest) e

    d_tight : (e : ℕ) → (d e ≡ 0ℚ → ⊥) → IsTight e
    d_tight e n = by (turn_of (first ∷ rest) e) refl
      where
        by : (o : Option Bool) → turn_of (first ∷ rest) e ≡ o → IsTight e
        by None h = absurd (n (ap signed h))
        by (Some b) h = trail-allowed (hops net) IsTight (first ∷ rest) v0 v0 e b trail h

    balance : (v : ℕ) → out_less_in net.links d v ≡ 0ℚ
    balance v = carried-closed net IsTight (first ∷ rest) v0 trail differ v

    abbrev Inside : ℕ → Type 0
    Inside v = (e : ℕ) × (link : Link) × LeadsToBare net sets flows slopes e link × (link.head ≡ v) × (d e ≡ 0ℚ → ⊥)

    module _ (v : ℕ) (h : v < net.nodes) (e : ℕ) (link : Link) (leads : LeadsToBare net sets flows slopes e link) (at : link.head ≡ v) (some : d e ≡ 0ℚ → ⊥) where
      bare : IsBare net sets flows v
      bare = subst (λ (k : ℕ). IsBare net sets flows k) at leads.bare

      other_in : (k : ℕ) (m : Link) → IsLink net k m → m.head ≡ v → (e ≡ k → ⊥) → (d k ≡ 0ℚ → ⊥) → ⊥
      other_in k m p s apart n = ⊎_elim
          (λ (b : LeadsToBare net sets flows slopes k m). ⊎_elim
          (λ (w : k < e). led_once e k link m leads b (s ∙ sym at) w)
          (λ (w : e ≤ k). led_once k e m link b leads (at ∙ sym s) (less w))
          (cases_lt k e))
          (λ (i : IsInterior net sets slopes flows k). no_flow k i (bare.bare k m (record { is_link = p; active = i.needs.0; head = s })).1)
          (tight_by k m p (d_tight k n))
        where
          less : e ≤ k → e < k
          less w = ⊎_elim (λ (x : e < k). x) (λ (x : k ≤ e). absurd (apart (omega arith))) (cases_lt e k)

      only_in : (k : ℕ) (m : Link) → IsLink net k m → m.head ≡ v → d k ≡ only_at e (d e) k
      only_in k m p s = ⊎_elim
          (λ (w : e ≡ k). subst (λ (j : ℕ). d j ≡ only_at e (d e) j) w (sym (only_at-here e (d e))))
          (λ (w : e ≡ k → ⊥). ⊎_elim
          (λ (z : d k ≡ 0ℚ). z ∙ sym (only_at-else e (d e) k w))
          (λ (n : d k ≡ 0ℚ → ⊥). absurd (other_in k m p s w n))
          (same_or_not (d k) 0ℚ))
          (same_node e k)

      mark_here : (b : Bool) → b ≡ true → (if b then d e else 0ℚ) ≡ d e
      mark_here true k = refl
      mark_here false k = absurd (cc)

      marked : mark link.head v (d e) ≡ d e
      marked = ⊎_elim
          (λ (w : (eqb link.head v ≡ true) × (link.head ≡ v)). mark_here (eqb link.head v) w.0)
          (λ (w : (eqb link.head v ≡ false) × (link.head ≢ v)). absurd (w.1 at))
          (eqb_tells link.head v)

      in_is : sum_in net.links d v ≡ d e
      in_is = sum_in-same net.links d (only_at e (d e)) v only_in ∙ sum_in-only net.links e link (d e) v leads.enters.is_link ∙ marked

      abbrev Onward : ℕ → Link → Type 0
      Onward f m = (m.tail ≡ v) × (d f ≡ 0ℚ → ⊥)

      onward_or_not : (f : ℕ) (m : Link) → Decided (Onward f m)
      onward_or_not f m = both (same_node m.tail v) (⊎_elim (λ (z : d f ≡ 0ℚ). inr (λ n. n z)) (λ (n : d f ≡ 0ℚ → ⊥). inl n) (same_or_not (d f) 0ℚ))

      no_sum : (o i y : ℚ) → o -ℚ i ≡ 0ℚ → i ≡ y → o ≡ 0ℚ → y ≡ 0ℚ
      no_sum o i y a b c = linear_eq (o ∷ i ∷ y ∷ []) (eq a ∷ eq b ∷ eq c ∷ []) (search reading_of) tt tt

      stuck : NoLink net.links Onward → ⊥
      stuck none = some (no_sum _ _ (d e) (balance v) in_is (sum_out-same net.links d (λ _. 0ℚ) v (λ f m p s. ⊎_elim
          (λ (z : d f ≡ 0ℚ). z)
          (λ (n : d f ≡ 0ℚ → ⊥). absurd (none f m p (s, n)))
          (same_or_not (d f) 0ℚ)) ∙ sum_out-none net.links v))

      onward : First net.links Onward → Goes net sets good.network good.acyclic Inside v
      onward f = ⊎_elim
          (λ (b : LeadsToBare net sets flows slopes f.0 f.1). (f.0, f.1, f.2, b.enters.active, f.3.0, (f.0, f.1, b, refl, f.3.1)))
          (λ (i : IsInterior net sets slopes flows f.0). absurd (no_flow f.0 i (bare_out net sets rate flows slopes good.network thin rate_nn v h bare f.0 f.1 f.2 f.3.0)))
          (tight_by f.0 f.1 f.2 (d_tight f.0 f.3.1))

      goes : Goes net sets good.network good.acyclic Inside v
      goes = ⊎_elim
          (λ (f : First net.links Onward). onward f)
          (λ (n : NoLink net.links Onward). absurd (stuck n))
          (first_or_none net.links Onward onward_or_not)

    inside_goes : (v : ℕ) → v < net.nodes → Inside v → Goes net sets good.network good.acyclic Inside v
    inside_goes v h (e, link, leads, at, some) = goes v h e link leads at some

    led_none : (e : ℕ) (link : Link) → LeadsToBare net sets flows slopes e link → (d e ≡ 0ℚ → ⊥) → ⊥
    led_none e link b n = none_last net sets good.network good.acyclic Inside inside_goes link.head (good.network.heads e link b.enters.is_link) (e, link, b, refl, n)

    not_level : (forward : Bool) (z : ℚ) → Carries net d forward z → z ≡ 0ℚ → ⊥
    not_level true z h e = not_both_ℚ _ _ h (≤ℚ_of_same _ _ e)
    not_level false z h e = not_both_ℚ _ _ h (≤ℚ_of_same _ _ (sym e))

    allowed : (e : ℕ) (forward : Bool) (u v : ℕ) → Dart net d e forward u v → IsInterior net sets slopes flows e
    allowed e forward u v dart = ⊎_elim
        (λ (b : LeadsToBare net sets flows slopes e dart.link). absurd (led_none e dart.link b (not_level forward (d e) dart.carries)))
        (λ (i : IsInterior net sets slopes flows e). i)
        (tight_by e dart.link dart.is_link (d_tight e (not_level forward (d e) dart.carries)))

    some_first : (b : Bool) → signed (Some b) ≡ 0ℚ → ⊥
    some_first true e = linear_false [] (eq e ∷ []) (search reading_of) tt
    some_first false e = linear_false [] (eq e ∷ []) (search reading_of) tt

    pub closed-none : ⊥
    closed-none =
        let l = link_at net first.0 trail.0 trail.1 in
        some_first first.1 (sym (ap signed (turn-first first.0 first.1 rest))
        ∙ forest-none net d (IsInterior net sets slopes flows) forest allowed good.network (λ v _. balance v) first.0 l.0 l.1)

  pub forest-settled : IsForest (hops net) IsTight
  forest-settled first rest v differ trail = closed-none first rest v differ trail
