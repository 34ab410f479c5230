-- The change of labels in a phase of a run, and the rates of the links that follow.
use Rattle.std.proofs.Common.{◌≡◌, ℕ, List, [], ◌∷◌, length, Bool, true, false, sym, ap, subst, refl, ◌∙◌, Some, map, slice_get}
use Rattle.nf_phase_laws.proofs.Common.{same_Some, none-some, ℚ, 0ℚ, ◌+ℚ◌, ◌*ℚ◌, ◌<ℚ◌, reading_of, lt, linear_lt, ps_times, Passing, number_at, Link}
use Rattle.nf_phase_laws.proofs.Common.{Network, IsLink, sets_at, Pattern, is_positive, QueueStep, LinkStep, LinkPhase, link_phase, amount_so_far, Standing}
use Rattle.nf_phase_laws.proofs.Common.{PhaseStep, number-moved, PhaseParts}
use Rattle.nf_phase_laws.proofs.StepValues.{rate_value, queue_value, step_value, step_value_at, positive_of}

-- ---- the source of a rate
rate_moves : (b : Bool) (flow slope rate : ℚ) → rate_value b flow slope ≡ Some rate → b ≡ true
rate_moves true flow slope rate h = refl
rate_moves false flow slope rate h = absurd (none-some rate h)

queue_moves : (link : LinkPhase) (b : Bool) (flow slope : ℚ) (step : QueueStep) → queue_value link (rate_value b flow slope) ≡ Some step → b ≡ true
queue_moves link true flow slope step h = refl
queue_moves link false flow slope step h = absurd (none-some step h)

further : (x t r : ℚ) → 0ℚ <ℚ t *ℚ r → x <ℚ x +ℚ t *ℚ r
further x t r h = linear_lt (x ∷ (t *ℚ r) ∷ []) (lt h ∷ []) (search reading_of) tt

-- ---- one phase
module _ (passes : Passing) (net : Network) (s : Standing) (pattern : Pattern) (flows slopes : List ℚ) (step : PhaseStep) (parts : PhaseParts passes net s pattern flows slopes step)
    (count : length slopes ≡ length s.labels) (some : 0ℚ <ℚ step.length) where
  pub label_moves : (v : ℕ) → is_positive (number_at slopes v) ≡ true → number_at s.labels v <ℚ number_at step.labels v
  label_moves v h = subst (λ (x : ℚ). number_at s.labels v <ℚ x)
      (sym (ap (λ (l : List ℚ). number_at l v) parts.labels ∙ number-moved s.labels slopes step.length v count))
      (further (number_at s.labels v) step.length (number_at slopes v) (ps_times step.length (number_at slopes v) some (positive_of (number_at slopes v) h)))

  module _ (e : ℕ) (link : Link) (p : IsLink net e link) (one : LinkStep) (here : slice_get step.links e ≡ Some one) where
    abbrev phase : LinkPhase
    phase = link_phase (sets_at net s.labels) pattern flows slopes step.labels (e, link)

    value_is : one ≡ step_value step.length (number_at (map amount_so_far s.link_curves) e) phase
    value_is = same_Some one _ (sym here ∙ step_value_at passes net (sets_at net s.labels) pattern step.length flows slopes step.labels
        (map amount_so_far s.link_curves) step.links parts.links e link p)

    pub inflow_moves : (rate : ℚ) → one.inflow_rate ≡ Some rate → number_at s.labels link.tail <ℚ number_at step.labels link.tail
    inflow_moves rate h = label_moves link.tail (rate_moves _ phase.flow phase.tail_slope rate (sym (ap (λ (t : LinkStep). t.inflow_rate) value_is) ∙ h))

    pub outflow_moves : (rate : ℚ) → one.outflow_rate ≡ Some rate → number_at s.labels link.head <ℚ number_at step.labels link.head
    outflow_moves rate h = label_moves link.head (rate_moves _ phase.flow phase.head_slope rate (sym (ap (λ (t : LinkStep). t.outflow_rate) value_is) ∙ h))

    pub queue_steps : (queue : QueueStep) → one.queue ≡ Some queue → number_at s.labels link.tail <ℚ number_at step.labels link.tail
    queue_steps queue h = label_moves link.tail (queue_moves phase _ phase.flow phase.tail_slope queue (sym (ap (λ (t : LinkStep). t.queue) value_is) ∙ h))
