-- Each phase preserves the invariant.
use Rattle.std.proofs.Common.{◌≡◌, ℕ, List, [], ◌∷◌, length, inl, inr, ⊎_elim, sym, ap, subst, ◌∙◌}
use Rattle.nf_phase_laws.proofs.Common.{ℚ, 0ℚ, ◌+ℚ◌, ◌-ℚ◌, ◌*ℚ◌, ◌≤ℚ◌, ◌<ℚ◌, min_ℚ, reading_of, min_ℚ_cases, le, lt, eq, linear_le, linear_eq, number_at}
use Rattle.nf_phase_laws.proofs.Common.{Network, IsNetwork, hops, slacks_of, Lasts, IsPhaseLength, IsPhase, IsNashFlow, moved-at, length-moved, HoldsUpTo}
use Rattle.nf_phase_laws.proofs.Common.{LabelsAre, GoesOn, ≤ℚ_refl, ≤ℚ_trans, min_left}
use Rattle.nf_phase_laws.specs.Run.{GoesByPhases, begins, goes_on}
use Rattle.nf_phase_laws.proofs.Holds.{IsNashFlow-from_HoldsUpTo}
use Rattle.nf_phase_laws.proofs.Start.{HoldsUpTo-start}
use Rattle.nf_phase_laws.proofs.Lasting.{HoldsUpTo-lasts}

-- If a phase can have a length, it can have each smaller one.
pub Lasts-shorter : (net : Network) (slacks slopes : List ℚ) (time long short : ℚ) → Lasts net slacks slopes time long → 0ℚ ≤ℚ short → short ≤ℚ long → Lasts net slacks slopes time short
Lasts-shorter net slacks slopes time long short l h k = record {
  not_negative = h;
  inactive = λ e link t p a w. l.inactive e link t p a (w.0, ≤ℚ_trans _ _ _ w.1 k);
  resetting = λ e link t p a w. l.resetting e link t p a (w.0, ≤ℚ_trans _ _ _ w.1 k);
  supply = λ i piece p a. ≤ℚ_trans _ _ _ (linear_le (time ∷ long ∷ short ∷ []) (le k ∷ []) (search reading_of) tt) (l.supply i piece p a);
}

-- A phase can have its length.
pub Lasts-phase : (net : Network) (slacks slopes : List ℚ) (time horizon length : ℚ) → time <ℚ horizon → IsPhaseLength net slacks slopes time horizon length
    → Lasts net slacks slopes time length
Lasts-phase net slacks slopes time horizon length b (inl (x, x_is, e)) = ⊎_elim
    (λ (w : (min_ℚ (horizon -ℚ time) x ≡ horizon -ℚ time) × (horizon -ℚ time ≤ℚ x)).
    let s : length ≡ horizon -ℚ time = e ∙ w.0 in
    Lasts-shorter net slacks slopes time x length x_is.lasts (linear_le (time ∷ horizon ∷ length ∷ []) (eq s ∷ lt b ∷ []) (search reading_of) tt)
    (linear_le (time ∷ horizon ∷ length ∷ x ∷ []) (eq s ∷ le w.1 ∷ []) (search reading_of) tt))
    (λ (w : (min_ℚ (horizon -ℚ time) x ≡ x) × (x <ℚ horizon -ℚ time)). subst (λ (z : ℚ). Lasts net slacks slopes time z) (sym (e ∙ w.0)) x_is.lasts)
    (min_ℚ_cases (horizon -ℚ time) x)
Lasts-phase net slacks slopes time horizon length b (inr (u, e)) = u length (linear_le (time ∷ horizon ∷ length ∷ []) (eq e ∷ lt b ∷ []) (search reading_of) tt)

-- No phase extends beyond its horizon.
pub IsPhaseLength-within : (net : Network) (slacks slopes : List ℚ) (time horizon length : ℚ) → IsPhaseLength net slacks slopes time horizon length → time +ℚ length ≤ℚ horizon
IsPhaseLength-within net slacks slopes time horizon length (inl (x, _, e)) =
    up_to time horizon (min_ℚ (horizon -ℚ time) x) length e (min_left (horizon -ℚ time) x)
  where
    up_to : (t h m l : ℚ) → l ≡ m → m ≤ℚ h -ℚ t → t +ℚ l ≤ℚ h
    up_to t h m l e k = linear_le (t ∷ h ∷ m ∷ l ∷ []) (eq e ∷ le k ∷ []) (search reading_of) tt
IsPhaseLength-within net slacks slopes time horizon length (inr (_, e)) = linear_le (time ∷ horizon ∷ length ∷ []) (eq e ∷ []) (search reading_of) tt

-- ---- facts on a flow built phase by phase
pub record Stands (net : Network) (until : ℚ) (labels : List ℚ) (amount label : ℕ → ℚ → ℚ) : Type 0 where
  pub holds : HoldsUpTo net amount label until
  pub same : LabelsAre net label until labels
  pub count : length labels ≡ net.nodes

moved_label : (a b c s t : ℚ) → a ≡ b +ℚ s *ℚ t → b ≡ c → a ≡ c +ℚ t *ℚ s
moved_label a b c s t e f = linear_eq (a ∷ b ∷ c ∷ s ∷ t ∷ []) (eq e ∷ eq f ∷ []) (search reading_of) tt tt

pub stands_after : (net : Network) (horizon time time' : ℚ) (labels labels' : List ℚ) (amount label amount' label' : ℕ → ℚ → ℚ)
    (phase : IsPhase net horizon (time, labels) (time', labels')) → IsNetwork net
    → Stands net time labels amount label → GoesOn net amount label time phase.length (number_at phase.flows) (number_at phase.slopes) amount' label'
    → Stands net time' labels' amount' label'
stands_after net horizon time time' labels labels' amount label amount' label' phase good stands goes = record {
  holds = subst (λ (z : ℚ). HoldsUpTo net amount' label' z) (sym phase.time)
      (HoldsUpTo-lasts net amount label amount' label' time phase.length labels phase.flows phase.slopes good stands.holds stands.same phase.thin lasts goes);
  same = λ v h. subst (λ (z : ℚ). label' v z ≡ number_at labels' v) (sym phase.time)
      (moved_label _ _ _ _ _ (goes.label_after v phase.length h (lasts.not_negative, ≤ℚ_refl _)) (stands.same v h)
      ∙ sym (moved-at labels phase.slopes phase.length v counts) ∙ ap (λ (l : List ℚ). number_at l v) (sym phase.labels));
  count = ap length phase.labels ∙ length-moved labels phase.slopes phase.length counts ∙ stands.count;
}
  where
    lasts : Lasts net (slacks_of (hops net) labels) phase.slopes time phase.length
    lasts = Lasts-phase net (slacks_of (hops net) labels) phase.slopes time horizon phase.length phase.before phase.is_length

    counts : length labels ≡ length phase.slopes
    counts = stands.count ∙ sym phase.thin.slope_count

stands_up_to : (net : Network) (horizon until : ℚ) (labels : List ℚ) (amount label : ℕ → ℚ → ℚ) → IsNetwork net
    → GoesByPhases net horizon until labels amount label → Stands net until labels amount label
stands_up_to net horizon until labels amount label good (begins _ _ _ least start) = record {
  holds = HoldsUpTo-start net labels amount label good least start;
  same = start.labels_are;
  count = least.count;
}
stands_up_to net horizon until labels amount label good (goes_on time _ before _ amount_0 label_0 _ _ phase earlier goes) =
    stands_after net horizon time until before labels amount_0 label_0 amount label phase good (stands_up_to net horizon time before amount_0 label_0 good earlier) goes

pub HoldsUpTo-phases : (net : Network) (horizon until : ℚ) (labels : List ℚ) (amount label : ℕ → ℚ → ℚ) → IsNetwork net
    → GoesByPhases net horizon until labels amount label → HoldsUpTo net amount label until
HoldsUpTo-phases net horizon until labels amount label good run = (stands_up_to net horizon until labels amount label good run).holds

pub LabelsAre-phases : (net : Network) (horizon until : ℚ) (labels : List ℚ) (amount label : ℕ → ℚ → ℚ) → IsNetwork net
    → GoesByPhases net horizon until labels amount label → LabelsAre net label until labels
LabelsAre-phases net horizon until labels amount label good run = (stands_up_to net horizon until labels amount label good run).same

pub IsNashFlow-phases : (net : Network) (horizon until : ℚ) (labels : List ℚ) (amount label : ℕ → ℚ → ℚ) → IsNetwork net
    → GoesByPhases net horizon until labels amount label → IsNashFlow net amount label until
IsNashFlow-phases net horizon until labels amount label good run = IsNashFlow-from_HoldsUpTo net amount label until good (HoldsUpTo-phases net horizon until labels amount label good run)
