-- Bounds of the store, and its change over a time in which the labels are lines.
use Rattle.std.proofs.Common.{◌≡◌, ℕ, ◌<◌, List, [], ◌∷◌, ⊎_elim, Option, Some, None, sym, ap, subst, refl, ◌∙◌}
use Rattle.std.proofs.lemmas.Option.{none-some, same_Some}
use Rattle.nf_settling_growth_laws.proofs.Common.{ℚ, 0ℚ, 1ℚ, ◌+ℚ◌, ◌-ℚ◌, ◌*ℚ◌, ◌≤ℚ◌, ◌<ℚ◌, max_ℚ, reading_of, ≤ℚ_of_lt, ≤ℚ_of_same, ≤ℚ_antisymm, lt_or_le_ℚ}
use Rattle.nf_settling_growth_laws.proofs.Common.{not_both_ℚ, nn_times, less_nn, ≤ℚ_trans, max0_of, max0_none, max_left, max_right, max_keeps, le, eq, le_times}
use Rattle.nf_settling_growth_laws.proofs.Common.{eq_times, linear_le, linear_eq, gap_np, number_at, Link, Network, IsNetwork, IsLink, Sets, link_sum}
use Rattle.nf_settling_growth_laws.proofs.Common.{capacity_or_0, filled, IsGraded}
use Rattle.nf_rational_laws.proofs.Field.{zero-*ℚ}
use Rattle.nf_model_laws.specs.Capacity.{IsPositive}
use Rattle.nf_model_laws.proofs.Earliest.{IsPositive-link}
use Rattle.nf_phase_laws.specs.Invariant.{queue_by_slack}
use Rattle.nf_complete_laws.specs.Oversupply.{Fits}
use Rattle.nf_settling_laws.proofs.Terms.{link_sum-le, link_sum-line, link_sum-not_negative, rise}
use Rattle.nf_settling_laws.proofs.Carried.{value_carried}
use Rattle.nf_settling_laws.proofs.Bounded.{waits}
use Rattle.nf_settling_growth_laws.proofs.Raised.{steepness}
use Rattle.nf_settling_growth_laws.proofs.Store.{over, steep, taken, store, drift, capacity_nn, over-is, over-line, over-nn}

-- ---- one link: x is its flow, p and q are the levels of its ends, a = p y and b = q z the labels, and r is its transit time
none_le : (x z y k r : ℚ) → x ≡ 0ℚ → k ≡ 0ℚ → x *ℚ (z -ℚ y) +ℚ 1ℚ *ℚ (k *ℚ y) ≤ℚ 0ℚ +ℚ 1ℚ *ℚ ((0ℚ +ℚ x) *ℚ r)
none_le x z y k r e f = linear_le (x ∷ z ∷ y ∷ k ∷ r ∷ []) (eq_times z e ∷ eq_times y e ∷ eq_times y f ∷ eq_times r e ∷ []) (search reading_of) tt

free_le : (x p z y r k : ℚ) → 0ℚ ≤ℚ x → 1ℚ ≤ℚ p → 0ℚ ≤ℚ r → p *ℚ (z -ℚ y) ≤ℚ r → k ≡ 0ℚ → x *ℚ (z -ℚ y) +ℚ 1ℚ *ℚ (k *ℚ y) ≤ℚ 0ℚ +ℚ 1ℚ *ℚ ((0ℚ +ℚ x) *ℚ r)
free_le x p z y r k n h m l f = joined (⊎_elim
    (λ (i : 0ℚ <ℚ z -ℚ y).
    let i_nn : 0ℚ ≤ℚ z -ℚ y = ≤ℚ_of_lt _ _ i in
    linear_le (p ∷ z ∷ y ∷ r ∷ []) (le_times i_nn h ∷ le l ∷ []) (search reading_of) tt)
    (λ (i : z -ℚ y ≤ℚ 0ℚ). linear_le (z ∷ y ∷ r ∷ []) (le i ∷ le m ∷ []) (search reading_of) tt)
    (lt_or_le_ℚ 0ℚ (z -ℚ y)))
  where
    joined : z -ℚ y ≤ℚ r → x *ℚ (z -ℚ y) +ℚ 1ℚ *ℚ (k *ℚ y) ≤ℚ 0ℚ +ℚ 1ℚ *ℚ ((0ℚ +ℚ x) *ℚ r)
    joined o = linear_le (x ∷ z ∷ y ∷ r ∷ k ∷ []) (le_times n o ∷ eq_times y f ∷ []) (search reading_of) tt

up_le : (x c p q y z a b r m k : ℚ) → 0ℚ ≤ℚ c → 0ℚ ≤ℚ x → 0ℚ ≤ℚ r → x ≡ c *ℚ q → a ≡ p *ℚ y → b ≡ q *ℚ z → b -ℚ (a +ℚ r) ≤ℚ m → k ≡ q -ℚ p
    → x *ℚ (z -ℚ y) +ℚ 1ℚ *ℚ ((c *ℚ k) *ℚ y) ≤ℚ c *ℚ m +ℚ 1ℚ *ℚ ((c +ℚ x) *ℚ r)
up_le x c p q y z a b r m k n i j e f g h o =
    let ky : k *ℚ y ≡ (q -ℚ p) *ℚ y = ap (λ (t : ℚ). t *ℚ y) o in
    linear_le (x ∷ c ∷ p ∷ q ∷ y ∷ z ∷ a ∷ b ∷ r ∷ m ∷ k ∷ [])
    (eq_times (z -ℚ y) e ∷ eq_times c ky ∷ eq_times c f ∷ eq_times c g ∷ le_times n h ∷ le_times i j ∷ []) (search reading_of) tt

flat_le : (x c p y z a b r m k : ℚ) → 0ℚ ≤ℚ c → 0ℚ ≤ℚ x → 0ℚ ≤ℚ r → 0ℚ ≤ℚ m → x ≤ℚ c *ℚ p → a ≡ p *ℚ y → b ≡ p *ℚ z → b -ℚ (a +ℚ r) ≤ℚ m → k ≡ 0ℚ
    → x *ℚ (z -ℚ y) +ℚ 1ℚ *ℚ ((c *ℚ k) *ℚ y) ≤ℚ c *ℚ m +ℚ 1ℚ *ℚ ((c +ℚ x) *ℚ r)
flat_le x c p y z a b r m k n i j mm e f g h o = joined (⊎_elim
    (λ (l : 0ℚ <ℚ z -ℚ y).
    let l_nn : 0ℚ ≤ℚ z -ℚ y = ≤ℚ_of_lt _ _ l in
    linear_le (x ∷ c ∷ p ∷ y ∷ z ∷ a ∷ b ∷ r ∷ m ∷ []) (le_times l_nn e ∷ eq_times c f ∷ eq_times c g ∷ le_times n h ∷ []) (search reading_of) tt)
    (λ (l : z -ℚ y ≤ℚ 0ℚ). linear_le (x ∷ c ∷ y ∷ z ∷ r ∷ m ∷ []) (le_times i l ∷ le_times n mm ∷ le_times n j ∷ []) (search reading_of) tt)
    (lt_or_le_ℚ 0ℚ (z -ℚ y)))
  where
    joined : x *ℚ (z -ℚ y) ≤ℚ c *ℚ m +ℚ c *ℚ r → x *ℚ (z -ℚ y) +ℚ 1ℚ *ℚ ((c *ℚ k) *ℚ y) ≤ℚ c *ℚ m +ℚ 1ℚ *ℚ ((c +ℚ x) *ℚ r)
    joined l =
        let ky : k *ℚ y ≡ 0ℚ *ℚ y = ap (λ (t : ℚ). t *ℚ y) o in
        linear_le (x ∷ c ∷ y ∷ z ∷ r ∷ m ∷ k ∷ []) (le l ∷ eq_times c ky ∷ le_times i j ∷ []) (search reading_of) tt

dry_le : (x c y z r m k : ℚ) → 0ℚ ≤ℚ c → 0ℚ ≤ℚ r → 0ℚ ≤ℚ m → x ≡ 0ℚ → k ≡ 0ℚ → x *ℚ (z -ℚ y) +ℚ 1ℚ *ℚ ((c *ℚ k) *ℚ y) ≤ℚ c *ℚ m +ℚ 1ℚ *ℚ ((c +ℚ x) *ℚ r)
dry_le x c y z r m k n j mm e o =
    let ky : k *ℚ y ≡ 0ℚ *ℚ y = ap (λ (t : ℚ). t *ℚ y) o in
    linear_le (x ∷ c ∷ y ∷ z ∷ r ∷ m ∷ k ∷ []) (eq_times (z -ℚ y) e ∷ eq_times r e ∷ eq_times c ky ∷ le_times n mm ∷ le_times n j ∷ [])
    (search reading_of) tt

link_bears : (capacity : Option ℚ) (x p q y z a b r : ℚ) → IsPositive capacity → Fits capacity x p q → 1ℚ ≤ℚ p → a ≡ p *ℚ y → b ≡ q *ℚ z → 0ℚ ≤ℚ r
    → (capacity ≡ None → b -ℚ (a +ℚ r) ≤ℚ 0ℚ)
    → x *ℚ (z -ℚ y) +ℚ 1ℚ *ℚ (steepness (capacity_or_0 capacity) p q *ℚ y) ≤ℚ queue_by_slack capacity
    (b -ℚ (a +ℚ r)) +ℚ 1ℚ *ℚ ((capacity_or_0 capacity +ℚ x) *ℚ r)
link_bears None x p q y z a b r positive fits one e f n free = ⊎_elim
    (λ (k : x ≤ℚ 0ℚ). none_le x z y _ r (≤ℚ_antisymm _ _ k fits.no_negative) (zero-*ℚ _))
    (λ (up : p ≤ℚ q). free_le x p z y r _ fits.no_negative one n (slow (≤ℚ_antisymm _ _ up down)) (zero-*ℚ _))
    fits.used
  where
    down : q ≤ℚ p
    down = ⊎_elim (λ (k : q ≤ℚ p). k) (λ (w : (c : ℚ) × (None ≡ Some c) × (c *ℚ q ≤ℚ x)). absurd (none-some w.0 w.1)) fits.upper

    slow : p ≡ q → p *ℚ (z -ℚ y) ≤ℚ r
    slow same = linear_le (p ∷ q ∷ y ∷ z ∷ a ∷ b ∷ r ∷ []) (le (free refl) ∷ eq e ∷ eq f ∷ eq_times z same ∷ []) (search reading_of) tt
link_bears (Some c) x p q y z a b r positive fits one e f n free = ⊎_elim
    (λ (up : p <ℚ q). up_le x c p q y z a b r _ _ c_nn fits.no_negative n (≤ℚ_antisymm _ _ (fits.most c refl) (fills up)) e f (max_right 0ℚ _)
    (max0_of _ (less_nn p q (≤ℚ_of_lt _ _ up))))
    (λ (down : q ≤ℚ p). ⊎_elim
    (λ (k : x ≤ℚ 0ℚ). dry_le x c y z r _ _ c_nn n (max_left 0ℚ _) (≤ℚ_antisymm _ _ k fits.no_negative) (max0_none _ (gap_np q p down)))
    (λ (up : p ≤ℚ q).
    let same : q ≡ p = ≤ℚ_antisymm _ _ down up in
    flat_le x c p y z a b r _ _ c_nn fits.no_negative n (max_left 0ℚ _)
    (subst (λ (t : ℚ). x ≤ℚ c *ℚ t) same (fits.most c refl)) e (f ∙ ap (λ (t : ℚ). t *ℚ z) same) (max_right 0ℚ _)
    (max0_none _ (gap_np q p down)))
    fits.used)
    (lt_or_le_ℚ p q)
  where
    c_nn : 0ℚ ≤ℚ c
    c_nn = ≤ℚ_of_lt _ _ (positive c refl)

    fills : p <ℚ q → c *ℚ q ≤ℚ x
    fills up = ⊎_elim
        (λ (k : q ≤ℚ p). absurd (not_both_ℚ _ _ up k))
        (λ (w : (d : ℚ) × (Some c ≡ Some d) × (d *ℚ q ≤ℚ x)). subst (λ (d : ℚ). d *ℚ q ≤ℚ x) (sym (same_Some c w.0 w.1)) w.2)
        fits.upper

-- ---- an upper bound of a queue
wait-le : (link : Link) (labels : ℕ → ℚ) (bound : ℚ) → IsPositive link.capacity → 0ℚ ≤ℚ link.transit → 0ℚ ≤ℚ labels link.tail → labels link.head ≤ℚ bound
    → 0ℚ ≤ℚ bound
    → waits labels link ≤ℚ capacity_or_0 link.capacity *ℚ bound
wait-le link labels bound p n t h m = go link.capacity p
  where
    slack_le : max_ℚ 0ℚ (labels link.head -ℚ (labels link.tail +ℚ link.transit)) ≤ℚ bound
    slack_le = max_keeps (λ z. z ≤ℚ bound) 0ℚ _ m (under (labels link.head) (labels link.tail) link.transit t h n)
      where
        under : (x y r : ℚ) → 0ℚ ≤ℚ y → x ≤ℚ bound → 0ℚ ≤ℚ r → x -ℚ (y +ℚ r) ≤ℚ bound
        under x y r i j k = linear_le (x ∷ y ∷ r ∷ bound ∷ []) (le i ∷ le j ∷ le k ∷ []) (search reading_of) tt

    times_le : (c x : ℚ) → 0ℚ ≤ℚ c → x ≤ℚ bound → c *ℚ x ≤ℚ c *ℚ bound
    times_le c x i j = linear_le (c ∷ x ∷ bound ∷ []) (le_times i j ∷ []) (search reading_of) tt

    go : (capacity : Option ℚ) → IsPositive capacity
        → queue_by_slack capacity (labels link.head -ℚ (labels link.tail +ℚ link.transit)) ≤ℚ capacity_or_0 capacity *ℚ bound
    go None p = linear_le (bound ∷ []) [] (search reading_of) tt
    go (Some c) p = times_le c _ (≤ℚ_of_lt _ _ (p c refl)) slack_le

module _ (net : Network) (good : IsNetwork net) (rate : ℚ) (flows levels : ℕ → ℚ) (graded : IsGraded net rate flows levels) where
  -- The amount on the links without queues, in the graded flow and at capacity.
  abbrev pub in_transit : ℚ
  in_transit = link_sum net.links (λ e link. (capacity_or_0 link.capacity +ℚ flows e) *ℚ link.transit)

  c_nn : (e : ℕ) (link : Link) → IsLink net e link → 0ℚ ≤ℚ capacity_or_0 link.capacity
  c_nn e link p = capacity_nn link.capacity (IsPositive-link net e link good p)

  module _ (labels : ℕ → ℚ) where
    abbrev waiting : ℚ
    waiting = link_sum net.links (λ e link. waits labels link)

    pub store-low : ((e : ℕ) (link : Link) → IsLink net e link → link.capacity ≡ None → labels link.head -ℚ (labels link.tail +ℚ link.transit) ≤ℚ 0ℚ)
        → 0ℚ -ℚ in_transit ≤ℚ store net rate levels labels
    store-low free = joined _ _ _ _ _ sums (value_carried net good rate flows graded.source graded.inner (over levels labels))
      where
        sums : link_sum net.links (λ e link. flows e *ℚ rise (over levels labels) link) +ℚ 1ℚ *ℚ taken net levels labels ≤ℚ waiting +ℚ 1ℚ *ℚ in_transit
        sums = ≤ℚ_trans _ _ _
            (≤ℚ_of_same _ _ (sym (link_sum-line 1ℚ net.links (λ e link. flows e *ℚ rise (over levels labels) link)
            (λ e link. steep levels link *ℚ over levels labels link.tail)
            (λ e link. flows e *ℚ rise (over levels labels) link +ℚ 1ℚ *ℚ (steep levels link *ℚ over levels labels link.tail)) (λ e link p. refl))))
            (≤ℚ_trans _ _ _
            (link_sum-le net.links (λ e link. flows e *ℚ rise (over levels labels) link +ℚ 1ℚ *ℚ (steep levels link *ℚ over levels labels link.tail))
            (λ e link. waits labels link +ℚ 1ℚ *ℚ ((capacity_or_0 link.capacity +ℚ flows e) *ℚ link.transit))
            (λ e link p. link_bears link.capacity (flows e) (levels link.tail) (levels link.head) (over levels labels link.tail)
            (over levels labels link.head) (labels link.tail) (labels link.head) link.transit
            (IsPositive-link net e link good p) (graded.fits e link p) (graded.keeps_up link.tail (good.tails e link p))
            (over-is net good rate flows levels graded labels link.tail (good.tails e link p))
            (over-is net good rate flows levels graded labels link.head (good.heads e link p)) (good.transits e link p)
            (free e link p)))
            (≤ℚ_of_same _ _ (link_sum-line 1ℚ net.links (λ e link. waits labels link) (λ e link. (capacity_or_0 link.capacity +ℚ flows e) *ℚ link.transit)
            (λ e link. waits labels link +ℚ 1ℚ *ℚ ((capacity_or_0 link.capacity +ℚ flows e) *ℚ link.transit)) (λ e link p. refl))))

        joined : (f t w h r : ℚ) → f +ℚ 1ℚ *ℚ t ≤ℚ w +ℚ 1ℚ *ℚ h → f ≡ r → 0ℚ -ℚ h ≤ℚ (w -ℚ t) -ℚ r
        joined f t w h r i e = linear_le (f ∷ t ∷ w ∷ h ∷ r ∷ []) (le i ∷ eq e ∷ []) (search reading_of) tt

    -- An upper bound, for labels up to a bound.
    pub store-high : (bound : ℚ) → 0ℚ ≤ℚ rate → 0ℚ ≤ℚ bound → ((v : ℕ) → v < net.nodes → 0ℚ ≤ℚ labels v) → ((v : ℕ) → v < net.nodes → labels v ≤ℚ bound)
        → store net rate levels labels ≤ℚ link_sum net.links (λ e link. capacity_or_0 link.capacity *ℚ bound) +ℚ rate *ℚ bound
    store-high bound nn m low high = joined _ _ _ _ _ _
        (link_sum-le net.links (λ e link. waits labels link) (λ e link. capacity_or_0 link.capacity *ℚ bound)
        (λ e link p. wait-le link labels bound (IsPositive-link net e link good p) (good.transits e link p) (low link.tail (good.tails e link p))
        (high link.head (good.heads e link p)) m))
        (link_sum-not_negative net.links (λ e link. steep levels link *ℚ over levels labels link.tail)
        (λ e link p. nn_times _ _ (nn_times _ _ (c_nn e link p) (max_left 0ℚ _))
        (over-nn net good rate flows levels graded labels link.tail (good.tails e link p) (low link.tail (good.tails e link p)))))
        (over-nn net good rate flows levels graded labels net.sink good.sink (low net.sink good.sink))
        (at_first (labels net.source) (levels net.source) (over levels labels net.source)
        (over-is net good rate flows levels graded labels net.source good.source) graded.starts (high net.source good.source))
      where
        at_first : (a l y : ℚ) → a ≡ l *ℚ y → l ≡ 1ℚ → a ≤ℚ bound → y ≤ℚ bound
        at_first a l y e f h = linear_le (a ∷ l ∷ y ∷ bound ∷ []) (eq e ∷ eq_times y f ∷ le h ∷ []) (search reading_of) tt

        joined : (u t z y m b : ℚ) → u ≤ℚ m → 0ℚ ≤ℚ t → 0ℚ ≤ℚ z → y ≤ℚ b → (u -ℚ t) -ℚ rate *ℚ (z -ℚ y) ≤ℚ m +ℚ rate *ℚ b
        joined u t z y m b i j k l = linear_le (u ∷ t ∷ z ∷ y ∷ m ∷ b ∷ rate ∷ []) (le i ∷ le j ∷ le_times nn k ∷ le_times nn l ∷ [])
            (search reading_of) tt

  -- ---- the change over the time w, from the labels a to the labels b
  pub store-step : (sets : Sets) (slopes : List ℚ) (a b : ℕ → ℚ) (w : ℚ) → ((v : ℕ) → v < net.nodes → b v ≡ a v +ℚ number_at slopes v *ℚ w)
      → link_sum net.links (λ e link. waits b link) ≡ link_sum net.links (λ e link. waits a link) +ℚ w *ℚ link_sum net.links
      (λ e link. filled sets slopes e link *ℚ rise (number_at slopes) link)
      → store net rate levels b ≡ store net rate levels a +ℚ w *ℚ drift net sets rate levels slopes
  store-step sets slopes a b w moves waiting = joined _ _ _ _ _ _ _ _ _ _ _ _ waiting
      (link_sum-line w net.links (λ e link. steep levels link *ℚ over levels a link.tail)
      (λ e link. steep levels link *ℚ over levels (number_at slopes) link.tail)
      (λ e link. steep levels link *ℚ over levels b link.tail) (λ e link p. times_line (steep levels link) _ _ _ (line link.tail (good.tails e link p))))
      (line net.sink good.sink) (line net.source good.source)
    where
      line : (v : ℕ) → v < net.nodes → over levels b v ≡ over levels a v +ℚ w *ℚ over levels (number_at slopes) v
      line v h = over-line net good rate flows levels graded a b (number_at slopes) w v h (moves v h)

      times_line : (n r s t : ℚ) → t ≡ r +ℚ w *ℚ s → n *ℚ t ≡ n *ℚ r +ℚ w *ℚ (n *ℚ s)
      times_line n r s t e = linear_eq (n ∷ r ∷ s ∷ t ∷ w ∷ []) (eq_times n e ∷ []) (search reading_of) tt tt

      joined : (ub ua f tb ta t zb za z yb ya y : ℚ) → ub ≡ ua +ℚ w *ℚ f → tb ≡ ta +ℚ w *ℚ t → zb ≡ za +ℚ w *ℚ z → yb ≡ ya +ℚ w *ℚ y
          → (ub -ℚ tb) -ℚ rate *ℚ (zb -ℚ yb) ≡ ((ua -ℚ ta) -ℚ rate *ℚ (za -ℚ ya)) +ℚ w *ℚ ((f -ℚ t) -ℚ rate *ℚ (z -ℚ y))
      joined ub ua f tb ta t zb za z yb ya y e g h i =
          linear_eq (ub ∷ ua ∷ f ∷ tb ∷ ta ∷ t ∷ zb ∷ za ∷ z ∷ yb ∷ ya ∷ y ∷ w ∷ rate ∷ []) (eq e ∷ eq g ∷ eq_times rate h ∷ eq_times rate i ∷ [])
          (search reading_of depth 12) tt tt
