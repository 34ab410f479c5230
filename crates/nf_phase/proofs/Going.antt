-- The loop invariant of a run, and the end of the loop.
use Rattle.std.proofs.Common.{◌≡◌, ℕ, suc, ◌+◌, ◌<◌, add-one, Bool, true, false, ⊎_elim, sym, ap, subst, ◌∙◌, Option, Some, None}
use Rattle.std.proofs.Common.{not, MatchBool}
use Rattle.nf_phase.proofs.Common.{ℚ, ◌≤ℚ◌, ◌<ℚ◌, lt_ℚ, ≤ℚ_antisymm, Passing, Network, IsNetwork, Cause, Standing, Bounds, Goes, Fails, Steps, continues}
use Rattle.nf_phase.proofs.Common.{begins, RunsOn, at_horizon, at_phases, fails, steps, StepFault, Reaches, IsCause, cause_of, stop_after}
use Rattle.nf_rational_laws.proofs.Tests.{lt_ℚ_cases}
use Rattle.nf_phase.proofs.Ended.{step_within}
use Rattle.nf_phase.proofs.Stepped.{reaches_step}
use Rattle.nf_phase.proofs.Stopping.{stands_stop}

-- The run has reached this state after this many phases, and an end from here is an end from the first state.
pub record GoneTo (passes : Passing) (net : Network) (bounds : Bounds) (first : Standing) (phases : ℕ) (s : Standing) : Type 0 where
  pub reaches : Reaches passes net s
  pub made : s.made ≡ phases
  pub within : s.time ≤ℚ bounds.horizon
  pub ends : (last : Standing) (stop : Option (Cause ℚ)) → RunsOn passes net bounds s last stop → RunsOn passes net bounds first last stop

-- Whether the run has reached the horizon.
pub at_or_below : (below : Bool) (time horizon : ℚ) → below ≡ lt_ℚ time horizon → MatchBool (not below) (horizon ≤ℚ time) (time <ℚ horizon)
at_or_below below time horizon e = ⊎_elim
    (λ (w : (lt_ℚ time horizon ≡ true) × (time <ℚ horizon)). subst (λ (b : Bool). MatchBool (not b) (horizon ≤ℚ time) (time <ℚ horizon)) (sym (e ∙ w.0)) w.1)
    (λ (w : (lt_ℚ time horizon ≡ false) × (horizon ≤ℚ time)). subst (λ (b : Bool). MatchBool (not b) (horizon ≤ℚ time) (time <ℚ horizon)) (sym (e ∙ w.0)) w.1)
    (lt_ℚ_cases time horizon)

module _ (passes : Passing) (net : Network) (bounds : Bounds) (first : Standing) where
  pub gone_nowhere : Reaches passes net first → first.made ≡ 0 → first.time ≤ℚ bounds.horizon → GoneTo passes net bounds first 0 first
  gone_nowhere reaches fresh within = record { reaches = reaches; made = fresh; within = within; ends = λ last stop runs. runs }

  module _ (phases : ℕ) (s : Standing) (gone : GoneTo passes net bounds first phases s) where
    pub ends_at_horizon : bounds.horizon ≤ℚ s.time → RunsOn passes net bounds first s None
    ends_at_horizon h = gone.ends s None (at_horizon (≤ℚ_antisymm s.time bounds.horizon gone.within h))

    ends_at_phases : s.time <ℚ bounds.horizon → phases ≡ bounds.phases → RunsOn passes net bounds first s (Some (Cause.Phases s.made))
    ends_at_phases below all = gone.ends s (Some (Cause.Phases s.made)) (at_phases below (gone.made ∙ all))

    may_go : phases < bounds.phases → s.made < bounds.phases
    may_go h = subst (λ (n : ℕ). n < bounds.phases) (sym gone.made) h

    made_by : (t : Standing) → Goes passes net bounds.horizon bounds.patterns s t → t.made ≡ phases + 1
    made_by t g = ap (λ (n : Standing). n.made) g.new_is ∙ ap suc gone.made ∙ sym (add-one phases)

    made_after : (t : Standing) → Steps passes net bounds.horizon bounds.patterns s t → t.made ≡ phases + 1
    made_after _ (continues {t = t} c g) = made_by t g
    made_after t (begins c g) = made_by t g

    pub gone_further : IsNetwork net → phases < bounds.phases → (t : Standing) → Steps passes net bounds.horizon bounds.patterns s t → GoneTo passes net bounds first (phases + 1) t
    gone_further good may t g = record {
      reaches = reaches_step passes net good s gone.reaches bounds.horizon bounds.patterns t g;
      made = made_after t g;
      within = step_within passes net good bounds s t g;
      ends = λ last stop runs. gone.ends last stop (steps (may_go may) g runs);
    }

    -- ---- the end of all phases
    pub ends_after_all : (stop : Option (Cause ℚ)) → stop ≡ stop_after (lt_ℚ s.time bounds.horizon) s.made → phases ≡ bounds.phases → RunsOn passes net bounds first s stop
    ends_after_all stop e all = ⊎_elim
        (λ (w : (lt_ℚ s.time bounds.horizon ≡ true) × (s.time <ℚ bounds.horizon)).
        subst (RunsOn passes net bounds first s) (sym (e ∙ ap (λ (b : Bool). stop_after b s.made) w.0)) (ends_at_phases w.1 all))
        (λ (w : (lt_ℚ s.time bounds.horizon ≡ false) × (bounds.horizon ≤ℚ s.time)).
        subst (RunsOn passes net bounds first s) (sym (e ∙ ap (λ (b : Bool). stop_after b s.made) w.0)) (ends_at_horizon w.1))
        (lt_ℚ_cases s.time bounds.horizon)

    -- ---- the next phase is not computed
    pub ends_by_fault : phases < bounds.phases → (fault : StepFault) → IsCause passes net bounds.horizon bounds.patterns s fault → (after : Standing)
        → after ≡ s → (phase : ℕ) → phase ≡ suc after.made → (stop : Cause ℚ) → cause_of phase fault ≡ Some stop
        → RunsOn passes net bounds first after (Some stop)
    ends_by_fault may fault h after same phase next stop e =
        let is : cause_of (suc s.made) fault ≡ Some stop =
        ap (λ (n : ℕ). cause_of n fault) (sym (next ∙ ap (λ (t : Standing). suc t.made) same)) ∙ e in
        subst (λ (t : Standing). RunsOn passes net bounds first t (Some stop)) (sym same)
        (gone.ends s (Some stop) (fails (may_go may) (stands_stop (Fails passes net bounds.horizon bounds.patterns s) (suc s.made) fault h stop is)))
