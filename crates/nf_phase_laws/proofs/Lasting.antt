-- A phase by lists: its thin flow, its length and the supply during it, in the form that the step theorem requires.
use Rattle.std.proofs.Common.{◌≡◌, ℕ, List, [], ◌∷◌, sym, subst, ◌∙◌}
use Rattle.nf_phase_laws.proofs.Common.{ℚ, 0ℚ, ◌+ℚ◌, ◌-ℚ◌, ◌*ℚ◌, ◌≤ℚ◌, ◌<ℚ◌, reading_of, le, eq, linear_le, linear_eq, number_at, Within, Link, Network}
use Rattle.nf_phase_laws.proofs.Common.{IsNetwork, IsLink, hops, supply, rate_at, slacks_of, sets_at, IsThinFlow, Lasts, slack_at, supplied-goes_on}
use Rattle.nf_phase_laws.proofs.Common.{link_slack, HoldsUpTo, LabelsAre, GoesOn, ≤ℚ_trans}
use Rattle.nf_phase_laws.proofs.Thin.{slack-is, IsThinBy-of}
use Rattle.nf_phase_laws.proofs.Phase.{PhaseStep, HoldsUpTo-phase}

-- The supply grows at its rate while no piece starts.
pub supply-lasts : (net : Network) (slacks slopes : List ℚ) (until length : ℚ) → IsNetwork net → Lasts net slacks slopes until length → (t : ℚ) → Within 0ℚ length t
    → supply net (until +ℚ t) ≡ supply net until +ℚ rate_at net until *ℚ t
supply-lasts net slacks slopes until length good lasts t w =
    supplied-goes_on net.pieces until (until +ℚ t) good.pieces (linear_le (until ∷ t ∷ []) (le w.0 ∷ []) (search reading_of) tt)
    (λ i piece p h. ≤ℚ_trans _ _ _ (linear_le (until ∷ t ∷ length ∷ []) (le w.1 ∷ []) (search reading_of) tt) (lasts.supply i piece p h))
    ∙ whole (supply net until) (rate_at net until) until t
  where
    whole : (u r a t : ℚ) → u +ℚ r *ℚ ((a +ℚ t) -ℚ a) ≡ u +ℚ r *ℚ t
    whole u r a t = linear_eq (u ∷ r ∷ a ∷ t ∷ []) [] (search reading_of) tt tt

module _ (net : Network) (amount label amount' label' : ℕ → ℚ → ℚ) (until length : ℚ) (labels flows slopes : List ℚ) (good : IsNetwork net) (holds : HoldsUpTo net amount label until)
    (same : LabelsAre net label until labels) (thin : IsThinFlow net (sets_at net labels) (rate_at net until) flows slopes)
    (lasts : Lasts net (slacks_of (hops net) labels) slopes until length) (goes : GoesOn net amount label until length (number_at flows) (number_at slopes) amount' label') where
  slack_entry : (e : ℕ) (link : Link) → IsLink net e link → number_at (slacks_of (hops net) labels) e ≡ link_slack label link until
  slack_entry e link p = slack_at net labels e link p ∙ slack-is net amount label until labels good holds same e link p

  after_while : (s z m l t : ℚ) → s ≡ z → s +ℚ t *ℚ (m -ℚ l) ≡ z +ℚ (m -ℚ l) *ℚ t
  after_while s z m l t e = linear_eq (s ∷ z ∷ m ∷ l ∷ t ∷ []) (eq e ∷ []) (search reading_of) tt tt

  pub step_of : PhaseStep net amount label until length (rate_at net until) (number_at flows) (number_at slopes) amount' label'
  step_of = record {
    good = good;
    holds = holds;
    thin = IsThinBy-of net amount label until labels good holds same (rate_at net until) flows slopes thin;
    some = lasts.not_negative;
    below = λ e link t p h w. subst (λ (s : ℚ). s ≤ℚ 0ℚ) (after_while _ _ _ _ t (slack_entry e link p))
        (lasts.inactive e link t p (subst (λ (s : ℚ). s <ℚ 0ℚ) (sym (slack_entry e link p)) h) w);
    above = λ e link t p h w. subst (λ (s : ℚ). 0ℚ ≤ℚ s) (after_while _ _ _ _ t (slack_entry e link p))
        (lasts.resetting e link t p (subst (λ (s : ℚ). 0ℚ <ℚ s) (sym (slack_entry e link p)) h) w);
    goes = goes;
    supply_after = supply-lasts net (slacks_of (hops net) labels) slopes until length good lasts;
  }

  pub HoldsUpTo-lasts : HoldsUpTo net amount' label' (until +ℚ length)
  HoldsUpTo-lasts = HoldsUpTo-phase net amount label until length (rate_at net until) (number_at flows) (number_at slopes) amount' label' step_of
