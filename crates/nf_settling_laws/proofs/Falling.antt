-- The change of the balance is never above 0, and it is below 0 unless each slope is 1. The filled amounts bear the flow, so the change is at
-- most 0. If a slope is not 1, some link with a filled amount crosses a level between that slope and the slope of the source.
use Rattle.std.proofs.Common.{◌≡◌, ◌≢◌, ℕ, ◌<◌, List, [], ◌∷◌, inl, inr, ⊎_elim, Bool, true, false, Option, Some, None, unwrap_or, sym, ap, subst, refl, ◌∙◌}
use Rattle.nf_settling_laws.proofs.Common.{ℚ, 0ℚ, 1ℚ, ◌-ℚ◌, ◌*ℚ◌, ◌/ℚ◌, ◌≤ℚ◌, ◌<ℚ◌, lt_ℚ, reading_of, ≤ℚ_of_lt, ≤ℚ_of_same, ≤ℚ_antisymm, lt_or_le_ℚ, not_both_ℚ}
use Rattle.nf_settling_laws.proofs.Common.{≤ℚ_refl, ≤_<_trans, test_of_less, max_left, eq, eq_times, linear_le, gap_np, gap_ng, number_at, Has, Link, Network}
use Rattle.nf_settling_laws.proofs.Common.{IsNetwork, Sets, exit_slope, exit_slope_at, Enters, IsThinFlow, IsPositive, IsPositive-link, AreSets, HoldNoCycle}
use Rattle.nf_settling_laws.proofs.Common.{flag, none_first, Decided, NoLink, both, less_or_not, SomeLink, some_link, link_sum}
use Rattle.nf_thin_laws.proofs.LinkLaws.{LinkLaw}
use Rattle.nf_settling_laws.proofs.Terms.{rise}
use Rattle.nf_settling_laws.proofs.Filling.{filled_amount, filled, Kind, law_at, kind_at, carried_up}
use Rattle.nf_settling_laws.proofs.Levels.{Bears, IsBorne, Up, Down, high_by_link, low_by_link}
use Rattle.nf_settling_laws.proofs.Heaped.{jump, up_to_1, heaped-le, heaped-strict}

-- The change of the balance per unit of departure, for a thin flow with these sets, value and slopes.
abbrev pub change : Network → Sets → ℚ → List ℚ → ℚ
change net sets rate slopes = link_sum net.links (λ e link. filled sets slopes e link *ℚ rise (number_at slopes) link)
    -ℚ rate *ℚ (number_at slopes net.sink -ℚ number_at slopes net.source)

-- ---- over plain numbers
le_or_not : (x y : ℚ) → Decided (x ≤ℚ y)
le_or_not x y = ⊎_elim (λ (h : y <ℚ x). inr (λ k. not_both_ℚ _ _ h k)) (λ (h : x ≤ℚ y). inl h) (lt_or_le_ℚ y x)

-- The filled amount of a link bears its flow.
Bears-kind : (n x s t : ℚ) → Kind n x s t → Bears n x s t
Bears-kind n x s t (inl (some, full)) =
    record { not_negative = ≤ℚ_of_lt _ _ some; up = inr (≤ℚ_of_same _ _ (sym full)); down = inr (≤ℚ_of_same _ _ full) }
Bears-kind n x s t (inr (none, inl empty)) = record {
  not_negative = ≤ℚ_of_same _ _ (sym none);
  up = inr (linear_le (n ∷ x ∷ t ∷ []) (eq_times t none ∷ eq empty ∷ []) (search reading_of) tt);
  down = inr (linear_le (n ∷ x ∷ t ∷ []) (eq_times t none ∷ eq empty ∷ []) (search reading_of) tt);
}
Bears-kind n x s t (inr (none, inr level)) =
    record { not_negative = ≤ℚ_of_same _ _ (sym none); up = inl (≤ℚ_of_same _ _ (sym level)); down = inl (≤ℚ_of_same _ _ level) }

-- ---- links that fill, by slope and exit slope
fills_up : (resets active : Bool) (capacity : Option ℚ) (x s t : ℚ) → IsPositive capacity → active ≡ true → s <ℚ t → LinkLaw resets capacity x s t
    → 0ℚ <ℚ filled_amount resets active (lt_ℚ s t) capacity
fills_up resets active None x s t p on up law = absurd (not_both_ℚ _ _ up law.upper)
fills_up true active (Some c) x s t p on up law = p c refl
fills_up false active (Some c) x s t p on up law = subst (λ (k : Bool). 0ℚ <ℚ filled_amount false k (lt_ℚ s t) (Some c)) (sym on)
    (subst (λ (k : Bool). 0ℚ <ℚ filled_amount false true k (Some c)) (sym (test_of_less s t up)) (p c refl))

fills_down : (resets active up : Bool) (capacity : Option ℚ) (x s t : ℚ) → IsPositive capacity → t <ℚ s → exit_slope resets capacity x s ≡ t
    → 0ℚ <ℚ filled_amount resets active up capacity
fills_down resets active up None x s t p down e = absurd (not_both_ℚ _ _ down (≤ℚ_of_same _ _ e))
fills_down true active up (Some c) x s t p down e = p c refl
fills_down false active up (Some c) x s t p down e = absurd (not_both_ℚ _ _ down (subst (λ (z : ℚ). s ≤ℚ z) e (max_left s (x /ℚ c))))

module _ (net : Network) (good : IsNetwork net) (sets : Sets) (rate : ℚ) (nn : 0ℚ ≤ℚ rate) (are : AreSets net sets) (acyclic : HoldNoCycle net sets)
    (flows slopes : List ℚ) (thin : IsThinFlow net sets rate flows slopes) where
  abbrev slope : ℕ → ℚ
  slope = number_at slopes

  abbrev x : ℕ → ℚ
  x = number_at flows

  abbrev n : ℕ → Link → ℚ
  n = filled sets slopes

  borne : IsBorne net rate x n slopes
  borne = record {
    rate_not_negative = nn;
    count = thin.slope_count;
    not_negative = thin.no_negative_slope;
    starts = thin.starts;
    carried = λ w. carried_up net sets rate flows slopes w good thin;
    bears = λ e link p. Bears-kind _ _ _ _ (kind_at net good sets rate are acyclic flows slopes thin e link p);
  }

  pub change-not_positive : change net sets rate slopes ≤ℚ 0ℚ
  change-not_positive = gap_np _ _ (heaped-le net good rate x n slopes borne)

  -- ---- the level above a: a link that fills crosses it
  module _ (a : ℚ) where
    abbrev IsUp : ℕ → Link → Type 0
    IsUp = Up n slopes a

    -- Some node is above the level, and the source is not.
    some_up : 1ℚ ≤ℚ a → (v : ℕ) → v < net.nodes → a <ℚ slope v → SomeLink net.links IsUp
    some_up high v h inside = ⊎_elim
        (λ (w : SomeLink net.links IsUp). w)
        (λ (missing : NoLink net.links IsUp). absurd (none_first net sets good acyclic (λ (u : ℕ). a <ℚ slope u) (back missing) v h inside))
        (some_link net.links IsUp (λ e link. both (less_or_not 0ℚ (n e link)) (both (le_or_not (slope link.tail) a) (less_or_not a (slope link.head)))))
      where
        back : NoLink net.links IsUp → (u : ℕ) → u < net.nodes → a <ℚ slope u
            → (e : ℕ) × (link : Link) × Enters net sets u e link × (a <ℚ slope link.tail)
        back missing u h inside =
            let other : u ≢ net.source = λ e. not_both_ℚ _ _ inside (subst (λ (z : ℚ). z ≤ℚ a) (sym (ap slope e ∙ thin.starts)) high) in
            let t : (e : ℕ) × (link : Link) × Enters net sets u e link × (exit_slope_at sets flows slopes e link ≡ slope u) = thin.taken u h other in
            let at_head : a <ℚ slope t.1.head = subst (λ (k : ℕ). a <ℚ slope k) (sym t.2.head) inside in
            ⊎_elim
            (λ (k : a <ℚ slope t.1.tail). (t.0, t.1, t.2, k))
            (λ (k : slope t.1.tail ≤ℚ a).
            let on : flag sets.active t.0 ≡ true = flag_of sets.active t.0 t.2.active in
            absurd (missing t.0 t.1 t.2.is_link (
              fills_up (flag sets.resetting t.0) (flag sets.active t.0) t.1.capacity (x t.0) (slope t.1.tail) (slope t.1.head)
                  (IsPositive-link net t.0 t.1 good t.2.is_link) on (≤_<_trans (slope t.1.tail) a (slope t.1.head) k at_head)
                  (law_at net good sets rate are acyclic flows slopes thin t.0 t.1 t.2.is_link on),
              (k, at_head),
            )))
            (lt_or_le_ℚ a (slope t.1.tail))
          where
            flag_of : (flags : List Bool) (e : ℕ) → Has flags e → flag flags e ≡ true
            flag_of flags e has = ap (λ (o : Option Bool). unwrap_or o false) has

    abbrev IsDown : ℕ → Link → Type 0
    IsDown = Down n slopes a

    -- The source is above the level, and some node is not.
    some_down : a <ℚ 1ℚ → (v : ℕ) → v < net.nodes → slope v ≤ℚ a → SomeLink net.links IsDown
    some_down low v h inside = ⊎_elim
        (λ (w : SomeLink net.links IsDown). w)
        (λ (missing : NoLink net.links IsDown). absurd (none_first net sets good acyclic (λ (u : ℕ). slope u ≤ℚ a) (back missing) v h inside))
        (some_link net.links IsDown (λ e link. both (less_or_not 0ℚ (n e link)) (both (less_or_not a (slope link.tail)) (le_or_not (slope link.head) a))))
      where
        back : NoLink net.links IsDown → (u : ℕ) → u < net.nodes → slope u ≤ℚ a
            → (e : ℕ) × (link : Link) × Enters net sets u e link × (slope link.tail ≤ℚ a)
        back missing u h inside =
            let other : u ≢ net.source = λ e. not_both_ℚ _ _ low (subst (λ (z : ℚ). z ≤ℚ a) (ap slope e ∙ thin.starts) inside) in
            let t : (e : ℕ) × (link : Link) × Enters net sets u e link × (exit_slope_at sets flows slopes e link ≡ slope u) = thin.taken u h other in
            let at_head : slope t.1.head ≤ℚ a = subst (λ (k : ℕ). slope k ≤ℚ a) (sym t.2.head) inside in
            ⊎_elim
            (λ (k : a <ℚ slope t.1.tail).
            absurd (missing t.0 t.1 t.2.is_link (
              fills_down (flag sets.resetting t.0) (flag sets.active t.0) (lt_ℚ (slope t.1.tail) (slope t.1.head)) t.1.capacity (x t.0)
                  (slope t.1.tail) (slope t.1.head) (IsPositive-link net t.0 t.1 good t.2.is_link)
                  (≤_<_trans (slope t.1.head) a (slope t.1.tail) at_head k) (t.3 ∙ ap slope (sym t.2.head)),
              (k, at_head),
            )))
            (λ (k : slope t.1.tail ≤ℚ a). (t.0, t.1, t.2, k))
            (lt_or_le_ℚ a (slope t.1.tail))

  -- ---- a slope below 1 makes its own level strict, and one above 1 the level of the source
  pub change-negative : (v : ℕ) → v < net.nodes → (slope v ≡ 1ℚ → ⊥) → change net sets rate slopes <ℚ 0ℚ
  change-negative v h apart = gap_ng _ _ (⊎_elim
      (λ (low : slope v <ℚ 1ℚ).
      let w : SomeLink net.links (IsDown (slope v)) = some_down (slope v) low v h (≤ℚ_refl (slope v)) in
      heaped-strict net good rate x n slopes borne v h (λ b o none. low_by_link net good rate x n slopes borne (slope v) b
      (thin.no_negative_slope v) o (jump net rate x n slopes (slope v) b borne none) (up_to_1 net rate x n slopes (slope v) b good borne none low)
      w.0 w.1 w.2 w.3))
      (λ (k : 1ℚ ≤ℚ slope v). ⊎_elim
      (λ (high : 1ℚ <ℚ slope v).
      let one : 1ℚ ≤ℚ slope net.source = ≤ℚ_of_same _ _ (sym thin.starts) in
      let w : SomeLink net.links (IsUp (slope net.source)) = some_up (slope net.source) one v h (subst (λ (z : ℚ). z <ℚ slope v) (sym thin.starts) high) in
      heaped-strict net good rate x n slopes borne net.source good.source (λ b o none. high_by_link net good rate x n slopes borne (slope net.source) b
      (thin.no_negative_slope net.source) o (jump net rate x n slopes (slope net.source) b borne none) one w.0 w.1 w.2 w.3))
      (λ (l : slope v ≤ℚ 1ℚ). absurd (apart (≤ℚ_antisymm _ _ l k)))
      (lt_or_le_ℚ 1ℚ (slope v)))
      (lt_or_le_ℚ (slope v) 1ℚ))
