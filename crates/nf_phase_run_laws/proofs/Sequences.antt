-- Phase sequences are extended, by one thin flow after the other, until they reach the horizon.
use Rattle.std.proofs.Common.{◌≡◌, ℕ, zero, suc, ◌<◌, ◌≤◌, List, [], ◌∷◌, length, ◌⊎◌, inl, inr, ⊎_elim, Some, slice_get, sym, ap, subst, refl, arith}
use Rattle.nf_phase_run_laws.proofs.Common.{cases_lt, none-some, same_Some, ℚ, 0ℚ, ◌+ℚ◌, ◌-ℚ◌, ◌≤ℚ◌, ◌<ℚ◌, reading_of, lt_or_le_ℚ, ≤ℚ_antisymm, le, eq}
use Rattle.nf_phase_run_laws.proofs.Common.{linear_le, min_left, Hop, IsHop, IsLeastTransit, Network, IsNetwork, hop_of, hops, slacks_of, AreStartLabels}
use Rattle.nf_phase_run_laws.proofs.Common.{moved, IsPhaseLength, IsPhase, PhasesFrom, IsPhaseSequence, from_map, HasThinFlow, numbers, length-numbers}
use Rattle.nf_phase_run_laws.proofs.Common.{number_at-numbers}
use Rattle.nf_net_laws.proofs.Settling.{least_exists}
use Rattle.nf_phase_run_laws.specs.Sequences.{ComesTo, PhaseSequencesGoOn}
use Rattle.nf_phase_run_laws.proofs.Lengths.{some_length}
use Rattle.nf_phase_run_laws.proofs.Phases.{HasCome, thin_there, HasCome-start, HasCome-after}

-- ---- the labels of departure 0
module _ (net : Network) (good : IsNetwork net) where
  not_negative : (e : ℕ) (hop : Hop) → IsHop (hops net) e hop → 0ℚ ≤ℚ hop.transit
  not_negative e hop p =
      let link = from_map hop_of net.links e hop p in
      subst (λ (h : Hop). 0ℚ ≤ℚ h.transit) link.2 (good.transits e link.0 link.1)

  least_to : (v : ℕ) → v < net.nodes → (least : ℚ) × IsLeastTransit (hops net) net.source v least
  least_to v h = let walk = good.reached v h in least_exists (hops net) not_negative net.source v walk.0 walk.1

  -- The value is 0 beyond the nodes.
  start_label : ℕ → ℚ
  start_label v = ⊎_elim (λ (h : v < net.nodes). (least_to v h).0) (λ (_ : net.nodes ≤ v). 0ℚ) (cases_lt v net.nodes)

  is_least : (v : ℕ) → v < net.nodes → IsLeastTransit (hops net) net.source v (start_label v)
  unfolding start_label
  is_least v h = go (cases_lt v net.nodes)
    where
      go : (c : (v < net.nodes) ⊎ (net.nodes ≤ v)) → IsLeastTransit (hops net) net.source v (⊎_elim (λ (h : v < net.nodes). (least_to v h).0) (λ (_ : net.nodes ≤ v). 0ℚ) c)
      go (inl k) = (least_to v k).1
      go (inr k) = absurd (omega arith)

  start_labels : List ℚ
  start_labels = numbers net.nodes start_label

  are_start : AreStartLabels net start_labels
  unfolding start_labels
  are_start = record {
    count = length-numbers net.nodes start_label;
    each = λ v h. subst (IsLeastTransit (hops net) net.source v) (sym (number_at-numbers net.nodes start_label v h)) (is_least v h);
  }

  module _ (horizon : ℚ) where
    -- ---- at each point
    pub thin_at_place : (old : ℚ × List ℚ) (rest : List (ℚ × List ℚ)) (place : ℕ) (departure : ℚ) (labels : List ℚ) → HasCome net old.0 old.1 → PhasesFrom net horizon old rest
        → slice_get (old ∷ rest) place ≡ Some (departure, labels) → HasThinFlow net departure labels
    thin_at_place old rest zero departure labels c phases here =
        subst (λ (p : ℚ × List ℚ). HasThinFlow net p.0 p.1) (same_Some old (departure, labels) here) (thin_there net old.0 old.1 good c)
    thin_at_place old [] (suc place) departure labels c phases here = absurd (none-some (departure, labels) here)
    thin_at_place old (new ∷ rest) (suc place) departure labels c phases here =
        thin_at_place new rest place departure labels (HasCome-after net horizon old.0 new.0 old.1 new.1 good phases.0 c) phases.1 here

    pub thin_in_sequence : (phases : List (ℚ × List ℚ)) (place : ℕ) (departure : ℚ) (labels : List ℚ) → IsPhaseSequence net horizon phases
        → slice_get phases place ≡ Some (departure, labels) → HasThinFlow net departure labels
    thin_in_sequence [] place departure labels is here = absurd is
    thin_in_sequence (first ∷ rest) place departure labels is here =
        thin_at_place first rest place departure labels (subst (λ (t : ℚ). HasCome net t first.1) (sym is.0) (HasCome-start net first.1 good is.1)) is.2 here

    -- ---- any number of phases
    abbrev Ends : ℕ → ℚ × List ℚ → List (ℚ × List ℚ) → Type 0
    Ends many old rest = (length rest ≡ many) ⊎ ((suc (length rest) ≤ many) × ComesTo horizon (old ∷ rest))

    abbrev GoesFrom : ℕ → ℚ × List ℚ → Type 0
    GoesFrom many old = (rest : List (ℚ × List ℚ)) × PhasesFrom net horizon old rest × Ends many old rest

    one_more : (many : ℕ) (old new : ℚ × List ℚ) → IsPhase net horizon old new → GoesFrom many new → GoesFrom (suc many) old
    one_more many old new phase g = (
      new ∷ g.0,
      (phase, g.1),
      ⊎_elim
          (λ (e : length g.0 ≡ many). inl (ap suc e))
          (λ (w : (suc (length g.0) ≤ many) × ComesTo horizon (new ∷ g.0)). inr (more (length g.0) w.0, (suc w.1.0, w.1.1, w.1.2)))
          g.2,
    )
      where
        more : (n : ℕ) → suc n ≤ many → suc (suc n) ≤ suc many
        more n h = omega arith

    within : (time length : ℚ) (slacks slopes : List ℚ) → IsPhaseLength net slacks slopes time horizon length → time +ℚ length ≤ℚ horizon
    within time length slacks slopes (inl (x, x_is, e)) = cut _ e (min_left (horizon -ℚ time) x)
      where
        cut : (m : ℚ) → length ≡ m → m ≤ℚ horizon -ℚ time → time +ℚ length ≤ℚ horizon
        cut m e h = linear_le (time ∷ length ∷ m ∷ horizon ∷ []) (eq e ∷ le h ∷ []) (search reading_of) tt
    within time length slacks slopes (inr (u, e)) = linear_le (time ∷ length ∷ horizon ∷ []) (eq e ∷ []) (search reading_of) tt

    abbrev Next : ℚ → List ℚ → Type 0
    Next time labels = (new : ℚ × List ℚ) × IsPhase net horizon (time, labels) new × (new.0 ≤ℚ horizon)

    next_phase : (time : ℚ) (labels : List ℚ) → HasCome net time labels → time <ℚ horizon → Next time labels
    next_phase time labels c before =
        let thin : HasThinFlow net time labels = thin_there net time labels good c in
        let long : (length : ℚ) × IsPhaseLength net (slacks_of (hops net) labels) thin.1 time horizon length =
        some_length net (slacks_of (hops net) labels) thin.1 time horizon good.pieces in (
          (time +ℚ long.0, moved labels thin.1 long.0),
          record { before = before; flows = thin.0; slopes = thin.1; thin = thin.2; length = long.0; is_length = long.1; time = refl; labels = refl },
          within time long.0 (slacks_of (hops net) labels) thin.1 long.1,
        )

    goes_on : (many : ℕ) (time : ℚ) (labels : List ℚ) → HasCome net time labels → time ≤ℚ horizon → GoesFrom many (time, labels)
    goes_on zero time labels c h = ([], tt, inl refl)
    goes_on (suc many) time labels c h = ⊎_elim
        (λ (before : time <ℚ horizon).
        let n : Next time labels = next_phase time labels c before in
        one_more many (time, labels) n.0 n.1 (goes_on many n.0.0 n.0.1 (HasCome-after net horizon time n.0.0 labels n.0.1 good n.1 c) n.2))
        (λ (k : horizon ≤ℚ time). ([], tt, inr (omega arith, (0, labels, ap (λ (t : ℚ). Some (t, labels)) (≤ℚ_antisymm _ _ h k)))))
        (lt_or_le_ℚ time horizon)

pub sequences_go_on : PhaseSequencesGoOn
sequences_go_on net horizon many good h =
    let labels : List ℚ = start_labels net good in
    let g : GoesFrom net good horizon many (0ℚ, labels) = goes_on net good horizon many 0ℚ labels (HasCome-start net labels good (are_start net good)) h in (
      (0ℚ, labels) ∷ g.0,
      (refl, are_start net good, g.1),
      ⊎_elim (λ (e : length g.0 ≡ many). inl (ap suc e))
          (λ (w : (suc (length g.0) ≤ many) × ComesTo horizon ((0ℚ, labels) ∷ g.0)). inr w) g.2,
    )
