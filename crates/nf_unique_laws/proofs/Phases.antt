-- The labels of an equilibrium in a phase that begins with them. On each interval on which all labels are lines, they change at the slopes
-- of the phase's thin flow: it is still a thin flow at the beginning of the interval, and slopes are unique. So the labels do so in the
-- whole phase, and in one phase after the other.
use Rattle.std.proofs.Common.{◌≡◌, ℕ, zero, suc, ◌<◌, List, [], ◌∷◌, length, Some, slice_get, ⊎_elim, Bool, true, false, if◌then◌else◌, sym, ap, subst, refl, ◌∙◌}
use Rattle.nf_unique_laws.proofs.Common.{same_Some, ℚ, 0ℚ, ◌+ℚ◌, ◌-ℚ◌, ◌*ℚ◌, ◌≤ℚ◌, ◌<ℚ◌, le_ℚ, reading_of, ≤ℚ_of_lt, ≤ℚ_of_same, ≤ℚ_antisymm, lt_or_le_ℚ}
use Rattle.nf_unique_laws.proofs.Common.{less_ps, not_both_ℚ, less_nn, le_ℚ_cases, lt, eq, eq_times, linear_lt, linear_eq, ≤ℚ_refl, ≤ℚ_trans, <ℚ_trans}
use Rattle.nf_unique_laws.proofs.Common.{<_≤_trans, number_at, Within, Piece, Network, IsNetwork, IsPiece, hops, rate_at, rate_from, slacks_of, sets_at}
use Rattle.nf_unique_laws.proofs.Common.{IsThinFlow, Flow, label, inflow, points_at, Equilibrium, IsAffine, same_from_times, moved-at, length-moved, turns-one}
use Rattle.nf_unique_laws.proofs.Common.{LabelsAre, HoldsUpTo-equilibrium, HoldNoCycle-sets_at}
use Rattle.nf_model.specs.Phases.{AreStartLabels, Lasts, moved, IsPhase, PhasesFrom, IsPhaseSequence}
use Rattle.nf_model_laws.proofs.OneValue.{IsLeastTransit-unique}
use Rattle.nf_curve_laws.proofs.Turning.{affine_between}
use Rattle.nf_phase_laws.proofs.Length.{IsPhase-some}
use Rattle.nf_phase_laws.proofs.Phases.{Lasts-phase}
use Rattle.nf_thin_laws.proofs.Slopes.{slopes-unique}
use Rattle.nf_unique_laws.specs.ThinLaws.{GoesByThinFlow}
use Rattle.nf_unique_laws.proofs.Stretches.{all_times, one-all, NoneBetween, along_times}
use Rattle.nf_unique_laws.proofs.Moves.{goes-by_thin_flow}
use Rattle.nf_unique_laws.proofs.Begins.{least_at_first}
use Rattle.nf_unique_laws.proofs.Staying.{IsThinFlow-stays}

-- ---- the rate is constant while no piece starts
rate-stays : (pieces : List Piece) (before t u : ℚ) → t ≤ℚ u → ((i : ℕ) (piece : Piece) → IsPiece pieces i piece → t <ℚ piece.start → u <ℚ piece.start)
    → rate_from before pieces u ≡ rate_from before pieces t
rate-stays [] before t u h none = refl
rate-stays (p ∷ rest) before t u h none = ⊎_elim
    (λ (w : (le_ℚ p.start t ≡ true) × (p.start ≤ℚ t)).
    ap (λ (b : Bool). if b then rate_from p.rate rest u else before) (started u (≤ℚ_trans _ _ _ w.1 h))
    ∙ rate-stays rest p.rate t u h (λ i piece e. none (suc i) piece e)
    ∙ sym (ap (λ (b : Bool). if b then rate_from p.rate rest t else before) w.0))
    (λ (w : (le_ℚ p.start t ≡ false) × (t <ℚ p.start)).
    ap (λ (b : Bool). if b then rate_from p.rate rest u else before) (not_started u (none 0 p refl w.1))
    ∙ sym (ap (λ (b : Bool). if b then rate_from p.rate rest t else before) w.0))
    (le_ℚ_cases p.start t)
  where
    started : (z : ℚ) → p.start ≤ℚ z → le_ℚ p.start z ≡ true
    started z k = ⊎_elim
        (λ (w : (le_ℚ p.start z ≡ true) × (p.start ≤ℚ z)). w.0)
        (λ (w : (le_ℚ p.start z ≡ false) × (z <ℚ p.start)). absurd (not_both_ℚ _ _ w.1 k))
        (le_ℚ_cases p.start z)

    not_started : (z : ℚ) → z <ℚ p.start → le_ℚ p.start z ≡ false
    not_started z k = ⊎_elim
        (λ (w : (le_ℚ p.start z ≡ true) × (p.start ≤ℚ z)). absurd (not_both_ℚ _ _ k w.1))
        (λ (w : (le_ℚ p.start z ≡ false) × (z <ℚ p.start)). w.0)
        (le_ℚ_cases p.start z)

-- ---- over plain numbers: x and y are values of lines, k and m slopes
pub one_slope : (x y k m t a : ℚ) → x ≡ y +ℚ k *ℚ (t -ℚ a) → x ≡ y +ℚ m *ℚ (t -ℚ a) → (t -ℚ a) *ℚ k ≡ (t -ℚ a) *ℚ m
one_slope x y k m t a e f = linear_eq (x ∷ y ∷ k ∷ m ∷ t ∷ a ∷ []) (eq e ∷ eq f ∷ []) (search reading_of) tt tt

farther : (x y z k m t a b : ℚ) → x ≡ y +ℚ k *ℚ (b -ℚ a) → k ≡ m → y ≡ z +ℚ (a -ℚ t) *ℚ m → x ≡ z +ℚ (b -ℚ t) *ℚ m
farther x y z k m t a b e f g = linear_eq (x ∷ y ∷ z ∷ k ∷ m ∷ t ∷ a ∷ b ∷ []) (eq e ∷ eq_times (b -ℚ a) f ∷ eq g ∷ []) (search reading_of) tt tt

not_yet : (x z m t : ℚ) → x ≡ z → x ≡ z +ℚ (t -ℚ t) *ℚ m
not_yet x z m t e = linear_eq (x ∷ z ∷ m ∷ t ∷ []) (eq e ∷ []) (search reading_of) tt tt

within_length : (t u l : ℚ) → u <ℚ t +ℚ l → u -ℚ t <ℚ l
within_length t u l h = linear_lt (t ∷ u ∷ l ∷ []) (lt h ∷ []) (search reading_of) tt

whole_length : (t u l : ℚ) → u ≡ t +ℚ l → u -ℚ t ≡ l
whole_length t u l e = linear_eq (t ∷ u ∷ l ∷ []) (eq e ∷ []) (search reading_of) tt tt

-- A phase ends no earlier than it begins.
phase-later : (net : Network) (horizon : ℚ) (old new : ℚ × List ℚ) → IsPhase net horizon old new → old.0 ≤ℚ new.0
phase-later net horizon old new phase = ≤ℚ_of_lt _ _ (IsPhase-some net horizon old new phase)

-- ---- entries
module _ (net : Network) (good : IsNetwork net) (flow : Flow) (is : Equilibrium net flow) (horizon : ℚ) where
  -- ---- one phase
  module _ (old new : ℚ × List ℚ) (phase : IsPhase net horizon old new) (begins : 0ℚ ≤ℚ old.0) (count : length old.1 ≡ net.nodes) (same : LabelsAre net (label flow) old.0 old.1) where
    abbrev slopes : List ℚ
    slopes = phase.slopes

    abbrev labels_at : ℚ → List ℚ
    labels_at departure = moved old.1 slopes (departure -ℚ old.0)

    abbrev Same : ℚ → Type 0
    Same departure = LabelsAre net (label flow) departure (labels_at departure)

    counts : length old.1 ≡ length slopes
    counts = count ∙ sym phase.thin.slope_count

    lasts : Lasts net (slacks_of (hops net) old.1) slopes old.0 phase.length
    lasts = Lasts-phase net (slacks_of (hops net) old.1) slopes old.0 horizon phase.length phase.before phase.is_length

    same-first : Same old.0
    same-first v h = not_yet _ (number_at old.1 v) (number_at slopes v) old.0 (same v h) ∙ sym (moved-at old.1 slopes (old.0 -ℚ old.0) v counts)

    -- An interval on which all labels are lines.
    module _ (a b : ℚ) (from : old.0 ≤ℚ a) (o : a <ℚ b) (in_phase : b ≤ℚ old.0 +ℚ phase.length) (described : b ≤ℚ flow.reached)
        (none : NoneBetween (all_times flow.labels) a b) (now : Same a) where
      a_nn : 0ℚ ≤ℚ a
      a_nn = ≤ℚ_trans _ _ _ begins from

      goes : GoesByThinFlow net flow a (labels_at a)
      goes = goes-by_thin_flow net good flow is a a_nn (<_≤_trans _ _ _ o described) (labels_at a) now

      rate_is : rate_at net a ≡ rate_at net old.0
      rate_is = rate-stays net.pieces 0ℚ old.0 a from (λ i piece p h. <_≤_trans _ _ _ (<_≤_trans _ _ _ o in_phase) (lasts.supply i piece p h))

      still_thin : IsThinFlow net (sets_at net (labels_at a)) (rate_at net a) phase.flows slopes
      still_thin = subst (λ (r : ℚ). IsThinFlow net (sets_at net (labels_at a)) r phase.flows slopes) (sym rate_is)
          (IsThinFlow-stays net good (rate_at net old.0) old.1 phase.flows slopes phase.thin counts old.0 phase.length (a -ℚ old.0) lasts (less_nn old.0 a from)
          (within_length old.0 a phase.length (<_≤_trans _ _ _ o in_phase)))

      slopes_are : goes.slopes ≡ slopes
      slopes_are = slopes-unique net (sets_at net (labels_at a)) (rate_at net a) good
          (HoldNoCycle-sets_at net (labels_at a) good) goes.flows goes.slopes phase.flows slopes goes.thin still_thin

      module _ (v : ℕ) (h : v < net.nodes) where
        line : (k : ℚ) × IsAffine (label flow v) a b k
        line = affine_between (points_at flow.labels v) a b (is.shape.labels.each v h) a_nn (≤ℚ_of_lt _ _ o)
            (λ t x y w. none t (one-all flow.labels v t (turns-one (points_at flow.labels v) t w)) x y)

        at_slope : (t : ℚ) → a <ℚ t → t ≤ℚ b → t ≤ℚ goes.until → line.0 ≡ number_at slopes v
        at_slope t x y z = same_from_times (t -ℚ a) line.0 (number_at slopes v) (less_ps a t x)
            (one_slope (label flow v t) (label flow v a) line.0 (number_at slopes v) t a (line.1.line t (≤ℚ_of_lt _ _ x) y)
            ((goes.labels_move v h).line t (≤ℚ_of_lt _ _ x) z ∙ ap (λ (l : List ℚ). label flow v a +ℚ number_at l v *ℚ (t -ℚ a)) slopes_are))

        slope_is : line.0 ≡ number_at slopes v
        slope_is = ⊎_elim
            (λ (l : goes.until <ℚ b). at_slope goes.until goes.later (≤ℚ_of_lt _ _ l) (≤ℚ_refl goes.until))
            (λ (l : b ≤ℚ goes.until). at_slope b o (≤ℚ_refl b) l)
            (lt_or_le_ℚ goes.until b)

      same-end : Same b
      same-end v h =
          farther (label flow v b) (label flow v a) (number_at old.1 v) (line v h).0 (number_at slopes v) old.0 a b ((line v h).1.line b (≤ℚ_of_lt _ _ o) (≤ℚ_refl b)) (slope_is v h)
          (now v h ∙ moved-at old.1 slopes (a -ℚ old.0) v counts)
          ∙ sym (moved-at old.1 slopes (b -ℚ old.0) v counts)

    module _ (departure : ℚ) (w : Within old.0 new.0 departure) (described : departure ≤ℚ flow.reached) where
      in_phase : (b : ℚ) → b ≤ℚ departure → b ≤ℚ old.0 +ℚ phase.length
      in_phase b h = ≤ℚ_trans _ _ _ h (≤ℚ_trans _ _ _ w.1 (≤ℚ_of_same _ _ phase.time))

      abbrev SameFrom : ℚ → Type 0
      SameFrom b = old.0 ≤ℚ b → Same b

      over_stretch : (a b : ℚ) → 0ℚ ≤ℚ a → a <ℚ b → b ≤ℚ departure → NoneBetween (all_times flow.labels) a b → SameFrom a → SameFrom b
      over_stretch a b _ o l none now from = ⊎_elim
          (λ (k : a <ℚ old.0). ⊎_elim
          (λ (m : old.0 <ℚ b). same-end old.0 b (≤ℚ_refl old.0) m (in_phase b l) (≤ℚ_trans _ _ _ l described) (λ t x y z. none t x (<ℚ_trans a old.0 t k y) z) same-first)
          (λ (m : b ≤ℚ old.0). subst Same (≤ℚ_antisymm _ _ from m) same-first)
          (lt_or_le_ℚ old.0 b))
          (λ (k : old.0 ≤ℚ a). same-end a b k o (in_phase b l) (≤ℚ_trans _ _ _ l described) none (now k))
          (lt_or_le_ℚ a old.0)

      pub phase-labels : LabelsAre net (label flow) departure (moved old.1 phase.slopes (departure -ℚ old.0))
      phase-labels = along_times SameFrom departure (all_times flow.labels) over_stretch (all_times flow.labels) old.0 departure begins w.0
          (≤ℚ_refl departure) (λ t x _ _. x) (λ _. same-first) w.0

    end-labels : new.0 ≤ℚ flow.reached → LabelsAre net (label flow) new.0 new.1
    end-labels h v k =
        phase-labels new.0 (phase-later net horizon old new phase, ≤ℚ_refl new.0) h v k
        ∙ ap (λ (l : ℚ). number_at (moved old.1 slopes l) v) (whole_length old.0 new.0 phase.length phase.time)
        ∙ sym (ap (λ (l : List ℚ). number_at l v) phase.labels)

    end-count : length new.1 ≡ net.nodes
    end-count = ap length phase.labels ∙ length-moved old.1 slopes phase.length counts ∙ count

  -- ---- one phase after the other
  -- None of the later phases ends earlier.
  later_on : (old : ℚ × List ℚ) (rest : List (ℚ × List ℚ)) (i : ℕ) (at : ℚ × List ℚ) → PhasesFrom net horizon old rest → slice_get rest i ≡ Some at → old.0 ≤ℚ at.0
  later_on old [] i at phases p = absurd (cc)
  later_on old (new ∷ rest) zero at phases p = subst (λ (z : ℚ × List ℚ). old.0 ≤ℚ z.0) (same_Some new at p) (phase-later net horizon old new phases.0)
  later_on old (new ∷ rest) (suc i) at phases p = ≤ℚ_trans _ _ _ (phase-later net horizon old new phases.0) (later_on new rest i at phases.1 p)

  labels_from : (old : ℚ × List ℚ) (rest : List (ℚ × List ℚ)) → 0ℚ ≤ℚ old.0 → length old.1 ≡ net.nodes → LabelsAre net (label flow) old.0 old.1 → PhasesFrom net horizon old rest
      → (i : ℕ) (at : ℚ × List ℚ) → slice_get rest i ≡ Some at → at.0 ≤ℚ flow.reached → LabelsAre net (label flow) at.0 at.1
  labels_from old [] begins count same phases i at p h = absurd (cc)
  labels_from old (new ∷ rest) begins count same phases zero at p h = subst (λ (z : ℚ × List ℚ). LabelsAre net (label flow) z.0 z.1) (same_Some new at p)
      (end-labels old new phases.0 begins count same (subst (λ (z : ℚ × List ℚ). z.0 ≤ℚ flow.reached) (sym (same_Some new at p)) h))
  labels_from old (new ∷ rest) begins count same phases (suc i) at p h =
      labels_from new rest (≤ℚ_trans _ _ _ begins (phase-later net horizon old new phases.0)) (end-count old new phases.0 begins count same)
      (end-labels old new phases.0 begins count same (≤ℚ_trans _ _ _ (later_on new rest i at phases.1 p) h)) phases.1 i at p h

  labels_first : (labels : List ℚ) → AreStartLabels net labels → LabelsAre net (label flow) 0ℚ labels
  labels_first labels start v h = IsLeastTransit-unique (hops net) net.source v _ _
      (least_at_first net (inflow flow) (label flow) flow.reached good (HoldsUpTo-equilibrium net flow good is) v h) (start.each v h)

  pub sequence-labels : (phases : List (ℚ × List ℚ)) → IsPhaseSequence net horizon phases → (i : ℕ) (time : ℚ) (labels : List ℚ) → slice_get phases i ≡ Some (time, labels)
      → time ≤ℚ flow.reached → LabelsAre net (label flow) time labels
  sequence-labels [] phases i time labels p h = absurd phases
  sequence-labels (first ∷ rest) phases i time labels p h = by i p
    where
      at_start : LabelsAre net (label flow) first.0 first.1
      at_start = subst (λ (z : ℚ). LabelsAre net (label flow) z first.1) (sym phases.0) (labels_first first.1 phases.1)

      by : (i : ℕ) → slice_get (first ∷ rest) i ≡ Some (time, labels) → LabelsAre net (label flow) time labels
      by zero p = subst (λ (z : ℚ × List ℚ). LabelsAre net (label flow) z.0 z.1) (same_Some first (time, labels) p) at_start
      by (suc i) p = labels_from first rest (≤ℚ_of_same _ _ (sym phases.0)) phases.1.count at_start phases.2 i (time, labels) p h
