-- Each network has a graded flow. Unbounded links get a capacity above the rate. In a graded flow for these capacities no such link leads to a
-- higher level: no flow leaves the nodes above a level, and at most the rate enters them.
use Rattle.std.proofs.Common.{◌≡◌, ℕ, if◌then◌else◌, [], ◌∷◌, inl, ⊎_elim, Bool, true, false, Option, Some, None, unwrap_or, sym, ap, subst, refl, ◌∙◌}
use Rattle.std.proofs.lemmas.Option.{none-some, same_Some}
use Rattle.nf_settling_graded_laws.proofs.Common.{ℚ, 0ℚ, 1ℚ, ◌+ℚ◌, ◌-ℚ◌, ◌*ℚ◌, ◌≤ℚ◌, ◌<ℚ◌, lt_ℚ, reading_of, ≤ℚ_of_lt, ≤ℚ_of_same, ≤ℚ_antisymm, lt_or_le_ℚ}
use Rattle.nf_settling_graded_laws.proofs.Common.{not_both_ℚ, <ℚ_irrefl, nn_times, less_nn, ≤ℚ_refl, ≤ℚ_trans, le, le_times, eq_times, linear_le, linear_lt}
use Rattle.nf_settling_graded_laws.proofs.Common.{Link, Network, IsLink, IsNetwork, IsPositive, Fits, fits_used}
use Rattle.nf_rational_laws.proofs.Tests.{lt_ℚ_cases}
use Rattle.nf_model_laws.proofs.Earliest.{IsPositive-link}
use Rattle.nf_settling_laws.proofs.Terms.{link_sum-one, rise}
use Rattle.nf_settling_laws.proofs.Carried.{value_carried}
use Rattle.nf_settling_graded_laws.specs.Grading.{IsGraded, GradedFlowExists}
use Rattle.nf_settling_graded_laws.proofs.Balanced.{IsGradedBy, graded_from}
use Rattle.nf_settling_graded_laws.proofs.Beginning.{supply_exists}

abbrev great : ℚ → ℚ
great rate = rate +ℚ 1ℚ

abbrev size_by : ℚ → Option ℚ → ℚ
size_by rate capacity = unwrap_or capacity (great rate)

size_by-positive : (rate : ℚ) (capacity : Option ℚ) → 0ℚ ≤ℚ rate → IsPositive capacity → 0ℚ <ℚ size_by rate capacity
size_by-positive rate None n p = linear_lt (rate ∷ []) (le n ∷ []) (search reading_of) tt
size_by-positive rate (Some c) n p = p c refl

some-positive : (x : ℚ) → 0ℚ <ℚ x → IsPositive (Some x)
some-positive x h c e = subst (λ (z : ℚ). 0ℚ <ℚ z) (same_Some x c e) h

-- The flow fits the capacity of the link itself, if no unbounded link leads to a higher level.
true_fits : (rate : ℚ) (capacity : Option ℚ) (x s t : ℚ) → Fits (Some (size_by rate capacity)) x s t → (capacity ≡ None → t ≤ℚ s) → Fits capacity x s t
true_fits rate None x s t fits low = record { no_negative = fits.no_negative; most = λ c e. absurd (none-some c e); used = fits.used; upper = inl (low refl) }
true_fits rate (Some c) x s t fits low = fits

one_if : Bool → ℚ
one_if b = if b then 1ℚ else 0ℚ

module _ (net : Network) (good : IsNetwork net) (rate : ℚ) (nn : 0ℚ ≤ℚ rate) where
  size_of : Link → ℚ
  size_of link = size_by rate link.capacity

  size_ps : (e : ℕ) (link : Link) → IsLink net e link → 0ℚ <ℚ size_of link
  unfolding size_of
  size_ps e link p = size_by-positive rate link.capacity nn (IsPositive-link net e link good p)

  cap : Link → Option ℚ
  cap link = Some (size_of link)

  cap_positive : (e : ℕ) (link : Link) → IsLink net e link → IsPositive (cap link)
  unfolding cap
  cap_positive e link p = some-positive (size_of link) (size_ps e link p)

  module _ (flows levels : ℕ → ℚ) (graded : IsGradedBy net cap rate flows levels) where
    -- ---- the nodes above a level
    module _ (a : ℚ) where
      side : ℕ → ℚ
      unfolding one_if
      side v = one_if (lt_ℚ a (levels v))

      low_side : (v : ℕ) → levels v ≤ℚ a → side v ≡ 0ℚ
      unfolding side one_if
      low_side v h = ⊎_elim
          (λ (w : (lt_ℚ a (levels v) ≡ true) × (a <ℚ levels v)). absurd (not_both_ℚ _ _ w.1 h))
          (λ (w : (lt_ℚ a (levels v) ≡ false) × (levels v ≤ℚ a)). ap (λ (k : Bool). if k then 1ℚ else 0ℚ) w.0)
          (lt_ℚ_cases a (levels v))

      high_side : (v : ℕ) → a <ℚ levels v → side v ≡ 1ℚ
      unfolding side one_if
      high_side v h = ⊎_elim
          (λ (w : (lt_ℚ a (levels v) ≡ true) × (a <ℚ levels v)). ap (λ (k : Bool). if k then 1ℚ else 0ℚ) w.0)
          (λ (w : (lt_ℚ a (levels v) ≡ false) × (levels v ≤ℚ a)). absurd (not_both_ℚ _ _ h w.1))
          (lt_ℚ_cases a (levels v))

      side_nn : (v : ℕ) → 0ℚ ≤ℚ side v
      side_nn v = ⊎_elim
          (λ (h : a <ℚ levels v). subst (λ (z : ℚ). 0ℚ ≤ℚ z) (sym (high_side v h)) (linear_le [] [] (search reading_of) tt))
          (λ (h : levels v ≤ℚ a). ≤ℚ_of_same _ _ (sym (low_side v h)))
          (lt_or_le_ℚ a (levels v))

      side_le : (v : ℕ) → side v ≤ℚ 1ℚ
      side_le v = ⊎_elim
          (λ (h : a <ℚ levels v). ≤ℚ_of_same _ _ (high_side v h))
          (λ (h : levels v ≤ℚ a). subst (λ (z : ℚ). z ≤ℚ 1ℚ) (sym (low_side v h)) (linear_le [] [] (search reading_of) tt))
          (lt_or_le_ℚ a (levels v))

      -- No link with flow leads down.
      carries_up : (e : ℕ) (link : Link) → IsLink net e link → 0ℚ ≤ℚ flows e *ℚ rise side link
      carries_up e link p = ⊎_elim
          (λ (some : 0ℚ <ℚ flows e). nn_times _ _ (≤ℚ_of_lt _ _ some)
          (rises (fits_used (cap link) (flows e) (levels link.tail) (levels link.head) (graded.fits e link p) some)))
          (λ (none : flows e ≤ℚ 0ℚ). empty (flows e) _ none (graded.fits e link p).no_negative)
          (lt_or_le_ℚ 0ℚ (flows e))
        where
          empty : (x r : ℚ) → x ≤ℚ 0ℚ → 0ℚ ≤ℚ x → 0ℚ ≤ℚ x *ℚ r
          empty x r h k = subst (λ (z : ℚ). 0ℚ ≤ℚ z *ℚ r) (sym (≤ℚ_antisymm x 0ℚ h k)) (linear_le (r ∷ []) [] (search reading_of) tt)

          rises : levels link.tail ≤ℚ levels link.head → 0ℚ ≤ℚ rise side link
          rises up = less_nn _ _ (⊎_elim
              (λ (h : a <ℚ levels link.head). subst (λ (z : ℚ). side link.tail ≤ℚ z) (sym (high_side link.head h)) (side_le link.tail))
              (λ (h : levels link.head ≤ℚ a). ≤ℚ_trans _ _ _ (≤ℚ_of_same _ _ (low_side link.tail (≤ℚ_trans _ _ _ up h))) (side_nn link.head))
              (lt_or_le_ℚ a (levels link.head)))

      crosses : (e : ℕ) (link : Link) → IsLink net e link → levels link.tail ≤ℚ a → a <ℚ levels link.head → flows e ≤ℚ rate
      crosses e link p h k = joined (flows e) (side link.tail) (side link.head) (side net.source) (side net.sink) (low_side link.tail h) (high_side link.head k)
          (≤ℚ_trans _ _ _ (link_sum-one net.links (λ e link. flows e *ℚ rise side link) carries_up e link p)
          (≤ℚ_of_same _ _ (value_carried net good rate flows graded.source graded.inner side)))
          (side_nn net.source) (side_le net.sink)
        where
          joined : (x s t a b : ℚ) → s ≡ 0ℚ → t ≡ 1ℚ → x *ℚ (t -ℚ s) ≤ℚ rate *ℚ (b -ℚ a) → 0ℚ ≤ℚ a → b ≤ℚ 1ℚ → x ≤ℚ rate
          joined x s t a b e f h k l = linear_le (x ∷ s ∷ t ∷ a ∷ b ∷ rate ∷ []) (eq_times x e ∷ eq_times x f ∷ le h ∷ le_times nn k ∷ le_times nn l ∷ [])
              (search reading_of) tt

    never_up : (e : ℕ) (link : Link) → IsLink net e link → link.capacity ≡ None → levels link.head ≤ℚ levels link.tail
    unfolding cap size_of
    never_up e link p none = ⊎_elim
        (λ (up : levels link.tail <ℚ levels link.head). ⊎_elim
        (λ (k : levels link.head ≤ℚ levels link.tail). k)
        (λ (w : (c : ℚ) × (Some (size_by rate link.capacity) ≡ Some c) × (c *ℚ levels link.head ≤ℚ flows e)).
        absurd (too_much (flows e) w.0 (levels link.head) (sym (same_Some _ w.0 w.1)
        ∙ ap (size_by rate) none) w.2 (graded.keeps_up link.head (good.heads e link p))
        (crosses (levels link.tail) e link p (≤ℚ_refl _) up)))
        (graded.fits e link p).upper)
        (λ (k : levels link.head ≤ℚ levels link.tail). k)
        (lt_or_le_ℚ (levels link.tail) (levels link.head))
      where
        too_much : (x c t : ℚ) → c ≡ rate +ℚ 1ℚ → c *ℚ t ≤ℚ x → 1ℚ ≤ℚ t → x ≤ℚ rate → ⊥
        too_much x c t e h k l =
            let low : 0ℚ ≤ℚ rate +ℚ 1ℚ = linear_le (rate ∷ []) (le nn ∷ []) (search reading_of) tt in
            <ℚ_irrefl 0ℚ (linear_lt (x ∷ c ∷ t ∷ rate ∷ []) (eq_times t e ∷ le h ∷ le_times low k ∷ le l ∷ []) (search reading_of) tt)

    IsGraded-sized : IsGraded net rate flows levels
    unfolding cap size_of
    IsGraded-sized = record {
      starts = graded.starts;
      keeps_up = graded.keeps_up;
      fits = λ e link p. true_fits rate link.capacity (flows e) (levels link.tail) (levels link.head) (graded.fits e link p) (never_up e link p);
      source = graded.source;
      inner = graded.inner;
    }

  pub some_graded : (flows : ℕ → ℚ) × (levels : ℕ → ℚ) × IsGraded net rate flows levels
  unfolding cap
  some_graded =
      let s = supply_exists net good rate nn size_of size_ps in
      let w = graded_from net cap rate good cap_positive nn s.0 s.1 s.2 in
      (w.0, w.1, IsGraded-sized w.0 w.1 w.2)

pub graded_flow-exists : GradedFlowExists
graded_flow-exists net rate good nn = some_graded net good rate nn
