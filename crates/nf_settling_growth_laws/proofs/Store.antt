-- The store of the labels at a departure, for a graded flow. It has three parts: the queues, less the sum over links to higher levels (`taken`), less
-- the rate times the rise from source to sink of the labels, each over its level. Along a thin flow the store changes at the rate `drift`.
-- That is never above 0, and below 0 unless the slope of the sink is its level.
use Rattle.std.proofs.Common.{◌≡◌, ℕ, ◌<◌, ◌≤◌, List, [], ◌∷◌, ⊎_elim, Bool, true, false, Option, Some, None, sym, ap, subst, refl, ◌∙◌}
use Rattle.std.proofs.lemmas.Bool.{cases_lt}
use Rattle.nf_settling_growth_laws.proofs.Common.{ℚ, 0ℚ, 1ℚ, ◌+ℚ◌, ◌-ℚ◌, ◌*ℚ◌, ◌/ℚ◌, ◌≤ℚ◌, ◌<ℚ◌, reading_of, ≤ℚ_of_lt, ≤ℚ_of_same, not_both_ℚ, nn_times}
use Rattle.nf_settling_growth_laws.proofs.Common.{≤ℚ_refl, ≤ℚ_trans, le, lt, eq, eq_times, linear_le, linear_lt, linear_eq, number_at, Has, Link, Network}
use Rattle.nf_settling_growth_laws.proofs.Common.{IsNetwork, IsLink, Sets, IsThinFlow, nn-quotient, quotient-times, same_from_times, link_sum, capacity_or_0}
use Rattle.nf_settling_growth_laws.proofs.Common.{filled_amount, filled, law_at, kind_at, carried_up, IsGraded}
use Rattle.nf_model_laws.specs.Capacity.{IsPositive}
use Rattle.nf_model_laws.proofs.Earliest.{IsPositive-link}
use Rattle.nf_thin_laws.specs.ActiveLinks.{AreSets, HoldNoCycle}
use Rattle.nf_thin_laws.proofs.Flags.{flag, flag-cases}
use Rattle.nf_complete_laws.proofs.Numbers.{numbers, length-numbers, number_at-numbers, number_at-past}
use Rattle.nf_forever_laws.proofs.Growth.{most_of}
use Rattle.nf_settling_laws.proofs.Terms.{link_sum-le, link_sum-line, rise}
use Rattle.nf_settling_laws.proofs.Levels.{IsBorne}
use Rattle.nf_settling_laws.proofs.Heaped.{heaped-le, heaped-lt}
use Rattle.nf_settling_laws.proofs.Bounded.{waits}
use Rattle.nf_settling_growth_laws.proofs.Raised.{raised, steepness, Raises, raises}

-- A number at a node over the level of the node.
abbrev pub over : (ℕ → ℚ) → (ℕ → ℚ) → ℕ → ℚ
over levels w v = w v /ℚ levels v

abbrev pub steep : (ℕ → ℚ) → Link → ℚ
steep levels link = steepness (capacity_or_0 link.capacity) (levels link.tail) (levels link.head)

-- The part of the store in which the levels rise: for each link to a higher level, the capacity times the rise of the level times the number over
-- the level at the tail.
abbrev pub taken : Network → (ℕ → ℚ) → (ℕ → ℚ) → ℚ
taken net levels w = link_sum net.links (λ e link. steep levels link *ℚ over levels w link.tail)

abbrev pub store : Network → ℚ → (ℕ → ℚ) → (ℕ → ℚ) → ℚ
store net rate levels labels = (link_sum net.links (λ e link. waits labels link) -ℚ taken net levels labels) -ℚ rate *ℚ (over levels labels
    net.sink -ℚ over levels labels net.source)

abbrev pub drift : Network → Sets → ℚ → (ℕ → ℚ) → List ℚ → ℚ
drift net sets rate levels slopes = (link_sum net.links (λ e link. filled sets slopes e link *ℚ rise (number_at slopes) link) -ℚ taken net levels
    (number_at slopes))
    -ℚ rate *ℚ (over levels (number_at slopes) net.sink -ℚ over levels (number_at slopes) net.source)

-- ---- the filled amount is from 0 to the capacity
filled_nn : (resets active up : Bool) (capacity : Option ℚ) → 0ℚ ≤ℚ capacity_or_0 capacity → 0ℚ ≤ℚ filled_amount resets active up capacity
filled_nn true active up capacity h = h
filled_nn false true true capacity h = h
filled_nn false true false capacity h = ≤ℚ_refl 0ℚ
filled_nn false false up capacity h = ≤ℚ_refl 0ℚ

filled_le : (resets active up : Bool) (capacity : Option ℚ) → 0ℚ ≤ℚ capacity_or_0 capacity → filled_amount resets active up capacity ≤ℚ capacity_or_0 capacity
filled_le true active up capacity h = ≤ℚ_refl _
filled_le false true true capacity h = ≤ℚ_refl _
filled_le false true false capacity h = h
filled_le false false up capacity h = h

pub capacity_nn : (capacity : Option ℚ) → IsPositive capacity → 0ℚ ≤ℚ capacity_or_0 capacity
capacity_nn None p = ≤ℚ_refl 0ℚ
capacity_nn (Some c) p = ≤ℚ_of_lt _ _ (p c refl)

pub capacity_is : (capacity : Option ℚ) (c : ℚ) → capacity ≡ Some c → capacity_or_0 capacity ≡ c
capacity_is capacity c e = ap capacity_or_0 e

pub one_ps : (p : ℚ) → 1ℚ ≤ℚ p → 0ℚ <ℚ p
one_ps p h = linear_lt (p ∷ []) (le h ∷ []) (search reading_of) tt

module _ (net : Network) (good : IsNetwork net) (rate : ℚ) (flows levels : ℕ → ℚ) (graded : IsGraded net rate flows levels) where
  pub level_ps : (v : ℕ) → v < net.nodes → 0ℚ <ℚ levels v
  level_ps v h = one_ps (levels v) (graded.keeps_up v h)

  -- The number is the level times the number over it.
  pub over-is : (w : ℕ → ℚ) (v : ℕ) → v < net.nodes → w v ≡ levels v *ℚ over levels w v
  over-is w v h = turned (w v) (levels v) (over levels w v) (quotient-times (w v) (levels v) (level_ps v h))
    where
      turned : (a l q : ℚ) → q *ℚ l ≡ a → a ≡ l *ℚ q
      turned a l q e = linear_eq (a ∷ l ∷ q ∷ []) (eq e ∷ []) (search reading_of) tt tt

  pub over-nn : (w : ℕ → ℚ) (v : ℕ) → v < net.nodes → 0ℚ ≤ℚ w v → 0ℚ ≤ℚ over levels w v
  over-nn w v h n = nn-quotient (w v) (levels v) n (level_ps v h)

  pub over-line : (x y w : ℕ → ℚ) (k : ℚ) (v : ℕ) → v < net.nodes → y v ≡ x v +ℚ w v *ℚ k → over levels y v ≡ over levels x v +ℚ k *ℚ over levels w v
  over-line x y w k v h e = same_from_times (levels v) (over levels y v) (over levels x v +ℚ k *ℚ over levels w v) (level_ps v h)
      (joined (levels v) (x v) (y v) (w v) _ _ _ (over-is x v h) (over-is y v h) (over-is w v h) e)
    where
      joined : (l a b c p q r : ℚ) → a ≡ l *ℚ p → b ≡ l *ℚ q → c ≡ l *ℚ r → b ≡ a +ℚ c *ℚ k → l *ℚ q ≡ l *ℚ (p +ℚ k *ℚ r)
      joined l a b c p q r e f g i = linear_eq (l ∷ a ∷ b ∷ c ∷ p ∷ q ∷ r ∷ k ∷ []) (eq e ∷ eq f ∷ eq_times k g ∷ eq i ∷ []) (search reading_of) tt tt

  pub capacity_up : (e : ℕ) (link : Link) → IsLink net e link → levels link.tail <ℚ levels link.head
      → (c : ℚ) × (link.capacity ≡ Some c) × (c *ℚ levels link.head ≤ℚ flows e)
  capacity_up e link p up = ⊎_elim
      (λ (k : levels link.head ≤ℚ levels link.tail). absurd (not_both_ℚ _ _ up k))
      (λ (w : (c : ℚ) × (link.capacity ≡ Some c) × (c *ℚ levels link.head ≤ℚ flows e)). w)
      (graded.fits e link p).upper

  -- ---- along a thin flow
  module _ (nn : 0ℚ ≤ℚ rate) (sets : Sets) (are : AreSets net sets) (acyclic : HoldNoCycle net sets) (thin_flows slopes : List ℚ)
      (thin : IsThinFlow net sets rate thin_flows slopes) where
    abbrev slope : ℕ → ℚ
    slope = number_at slopes

    abbrev x : ℕ → ℚ
    x = number_at thin_flows

    thin_most : (e : ℕ) (link : Link) (c : ℚ) → IsLink net e link → link.capacity ≡ Some c → x e ≤ℚ c *ℚ slope link.head
    thin_most e link c p some = ⊎_elim
        (λ (a : (flag sets.active e ≡ true) × Has sets.active e). most_of (flag sets.resetting e) link.capacity (x e) c (slope link.tail) (slope link.head) some
        (IsPositive-link net e link good p) (thin.no_negative_slope link.head) (law_at net good sets rate are acyclic thin_flows slopes thin e link p a.0))
        (λ (a : (flag sets.active e ≡ false) × (Has sets.active e → ⊥)). ≤ℚ_trans _ _ _ (≤ℚ_of_same _ _ (thin.active_only e a.1))
        (nn_times c (slope link.head) (≤ℚ_of_lt _ _ (good.capacities e link c p some)) (thin.no_negative_slope link.head)))
        (flag-cases sets.active e)

    -- ---- slopes over levels
    abbrev paces : List ℚ
    paces = numbers net.nodes (over levels slope)

    abbrev pace : ℕ → ℚ
    pace = number_at paces

    pace-is : (v : ℕ) → v < net.nodes → pace v ≡ over levels slope v
    pace-is v h = number_at-numbers net.nodes (over levels slope) v h

    pace_nn : (v : ℕ) → 0ℚ ≤ℚ pace v
    pace_nn v = ⊎_elim
        (λ (h : v < net.nodes). subst (λ (z : ℚ). 0ℚ ≤ℚ z) (sym (pace-is v h)) (over-nn slope v h (thin.no_negative_slope v)))
        (λ (h : net.nodes ≤ v). ≤ℚ_of_same _ _ (sym (number_at-past net.nodes (over levels slope) v h)))
        (cases_lt v net.nodes)

    slope-is : (v : ℕ) → v < net.nodes → slope v ≡ levels v *ℚ pace v
    slope-is v h = over-is slope v h ∙ ap (λ (z : ℚ). levels v *ℚ z) (sym (pace-is v h))

    starts : pace net.source ≡ 1ℚ
    starts = one_of (slope net.source) (levels net.source) (pace net.source) (slope-is net.source good.source) thin.starts graded.starts
      where
        one_of : (s l a : ℚ) → s ≡ l *ℚ a → s ≡ 1ℚ → l ≡ 1ℚ → a ≡ 1ℚ
        one_of s l a e f g = linear_eq (s ∷ l ∷ a ∷ []) (eq e ∷ eq f ∷ eq_times a g ∷ []) (search reading_of) tt tt

    -- ---- each link
    abbrev amount : ℕ → Link → ℚ
    amount e link = raised (filled sets slopes e link) (x e) (capacity_or_0 link.capacity) (levels link.tail) (levels link.head)

    each : (e : ℕ) (link : Link) → IsLink net e link → Raises (filled sets slopes e link) (capacity_or_0 link.capacity) (levels link.tail)
        (levels link.head) (x e) (slope link.tail) (slope link.head)
        (pace link.tail) (pace link.head) (amount e link)
    each e link p = raises (filled sets slopes e link) (capacity_or_0 link.capacity) (levels link.tail) (levels link.head) (x e) (slope link.tail)
        (slope link.head) (pace link.tail) (pace link.head)
        (filled_nn (flag sets.resetting e) (flag sets.active e) _ link.capacity c_nn)
        (filled_le (flag sets.resetting e) (flag sets.active e) _ link.capacity c_nn)
        (level_ps link.tail (good.tails e link p)) (level_ps link.head (good.heads e link p)) (thin.no_negative_flow e) (pace_nn link.tail) (pace_nn link.head)
        (slope-is link.tail (good.tails e link p))
        (slope-is link.head (good.heads e link p)) at_most (kind_at net good sets rate are acyclic thin_flows slopes thin e link p)
      where
        c_nn : 0ℚ ≤ℚ capacity_or_0 link.capacity
        c_nn = capacity_nn link.capacity (IsPositive-link net e link good p)

        at_most : levels link.tail <ℚ levels link.head → x e ≤ℚ capacity_or_0 link.capacity *ℚ slope link.head
        at_most up = let w : (c : ℚ) × (link.capacity ≡ Some c) × (c *ℚ levels link.head ≤ℚ flows e) = capacity_up e link p up in
            subst (λ (k : ℚ). x e ≤ℚ k *ℚ slope link.head) (sym (capacity_is link.capacity w.0 w.1)) (thin_most e link w.0 p w.1)

    borne : IsBorne net rate x amount paces
    borne = record {
      rate_not_negative = nn;
      count = length-numbers net.nodes (over levels slope);
      not_negative = pace_nn;
      starts = starts;
      carried = λ w. carried_up net sets rate thin_flows slopes w good thin;
      bears = λ e link p. (each e link p).bears;
    }

    abbrev heap : ℚ
    heap = link_sum net.links (λ e link. amount e link *ℚ rise pace link)

    abbrev filling : ℚ
    filling = link_sum net.links (λ e link. filled sets slopes e link *ℚ rise slope link)

    filling-le : filling ≤ℚ heap +ℚ 1ℚ *ℚ taken net levels slope
    filling-le = ≤ℚ_trans _ _ _
        (link_sum-le net.links (λ e link. filled sets slopes e link *ℚ rise slope link)
        (λ e link. amount e link *ℚ rise pace link +ℚ 1ℚ *ℚ (steep levels link *ℚ over levels slope link.tail))
        (λ e link p. subst (λ (z : ℚ). filled sets slopes e link *ℚ rise slope link ≤ℚ amount e link *ℚ rise pace link +ℚ 1ℚ *ℚ (steep levels link *ℚ z))
        (pace-is link.tail (good.tails e link p))
        (each e link p).pays))
        (≤ℚ_of_same _ _ (link_sum-line 1ℚ net.links (λ e link. amount e link *ℚ rise pace link) (λ e link. steep levels link *ℚ over levels slope link.tail)
        (λ e link. amount e link *ℚ rise pace link +ℚ 1ℚ *ℚ (steep levels link *ℚ over levels slope link.tail)) (λ e link p. refl)))

    ends : rate *ℚ (pace net.sink -ℚ pace net.source) ≡ rate *ℚ (over levels slope net.sink -ℚ over levels slope net.source)
    ends = both _ _ _ _ (pace-is net.sink good.sink) (pace-is net.source good.source)
      where
        both : (a b c d : ℚ) → a ≡ b → c ≡ d → rate *ℚ (a -ℚ c) ≡ rate *ℚ (b -ℚ d)
        both a b c d e f = cc

    pub drift-le : drift net sets rate levels slopes ≤ℚ 0ℚ
    drift-le = below filling heap (taken net levels slope) _ _ filling-le
        (heaped-le net good rate x amount paces borne) ends
      where
        below : (f h t r q : ℚ) → f ≤ℚ h +ℚ 1ℚ *ℚ t → h ≤ℚ r → r ≡ q → (f -ℚ t) -ℚ q ≤ℚ 0ℚ
        below f h t r q i j e = linear_le (f ∷ h ∷ t ∷ r ∷ q ∷ []) (le i ∷ le j ∷ eq e ∷ []) (search reading_of) tt

    pub drift-lt : 0ℚ <ℚ rate → (slope net.sink ≡ levels net.sink → ⊥) → drift net sets rate levels slopes <ℚ 0ℚ
    drift-lt more apart = below filling heap (taken net levels slope) _ _ filling-le
        (heaped-lt net good rate x amount paces borne more
        (λ one. apart (level_of (slope net.sink) (levels net.sink) (pace net.sink) (slope-is net.sink good.sink) one))) ends
      where
        below : (f h t r q : ℚ) → f ≤ℚ h +ℚ 1ℚ *ℚ t → h <ℚ r → r ≡ q → (f -ℚ t) -ℚ q <ℚ 0ℚ
        below f h t r q i j e = linear_lt (f ∷ h ∷ t ∷ r ∷ q ∷ []) (le i ∷ lt j ∷ eq e ∷ []) (search reading_of) tt

        level_of : (s l a : ℚ) → s ≡ l *ℚ a → a ≡ 1ℚ → s ≡ l
        level_of s l a e f = linear_eq (s ∷ l ∷ a ∷ []) (eq e ∷ eq_times l f ∷ []) (search reading_of) tt tt
