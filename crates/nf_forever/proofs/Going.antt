-- The loop invariant of a run without a horizon, and the end of the loop.
use Rattle.std.proofs.Common.{◌≡◌, ℕ, suc, ◌+◌, ◌<◌, add-one, refl, sym, ap, subst, ◌∙◌, Option, Some, None, IsSome, MatchOption}
use Rattle.nf_forever.proofs.Common.{ℚ, Passing, Network, Cause, Standing, IsStart, Reaches, starts, IsCauseOn, tail_by, GoesToEnd, GoesForever, FailsOn}
use Rattle.nf_forever.proofs.Common.{End, Stops, NeverEnds, RunsForever, at_phases, fails, never_ends, goes, IsForeverRun}
use Rattle.nf_phase.specs.Solution.{cause_of}
use Rattle.nf_phase.specs.ThinFlow.{ThinFlow}
use Rattle.nf_phase.specs.declared.fault.StepFault.{StepFault}
use Rattle.nf_phase.proofs.Stopping.{stands_stop}

-- From the start the run has reached this state after this many phases, and an end from here is an end from the start.
pub record GoneOn (passes : Passing) (net : Network) (phases patterns : ℕ) (first : Standing) (count : ℕ) (s : Standing) : Type 0 where
  pub reaches : Reaches passes net s
  pub made : s.made ≡ count
  pub ends : (last : Standing) (end : End) → RunsForever passes net phases patterns s last end → RunsForever passes net phases patterns first last end

module _ (passes : Passing) (net : Network) (phases patterns : ℕ) (first : Standing) where
  pub gone_nowhere : IsStart net first → GoneOn passes net phases patterns first 0 first
  gone_nowhere start = record { reaches = starts start; made = start.made; ends = λ last end runs. runs }

  module _ (start : IsStart net first) (count : ℕ) (s : Standing) (gone : GoneOn passes net phases patterns first count s) where
    run_of : (end : End) → RunsForever passes net phases patterns s s end → IsForeverRun passes net phases patterns s end
    run_of end runs = record { first = first; start = start; runs = gone.ends s end runs }

    may_go : count < phases → s.made < phases
    may_go h = subst (λ (n : ℕ). n < phases) (sym gone.made) h

    further : count < phases → (t : Standing) → Reaches passes net t → GoesToEnd passes net patterns s t → GoneOn passes net phases patterns first (count + 1) t
    further may t reaches g = record {
      reaches = reaches;
      made = ap (λ (n : Standing). n.made) g.goes.new_is ∙ ap suc gone.made ∙ sym (add-one count);
      ends = λ last end runs. gone.ends last end (goes (may_go may) g runs);
    }

    -- If no thin flow is returned, a phase was added.
    pub gone_further : count < phases → (answer : Option ThinFlow) → answer ≡ None → (t : Standing) → Reaches passes net t
        → MatchOption answer (GoesToEnd passes net patterns s t) (λ thin. GoesForever passes net patterns s thin.pattern (tail_by thin))
        → GoneOn passes net phases patterns first (count + 1) t
    gone_further may answer is t reaches g =
        further may t reaches (subst (λ (o : Option ThinFlow). MatchOption o (GoesToEnd passes net patterns s t)
        (λ thin. GoesForever passes net patterns s thin.pattern (tail_by thin))) is g)

    -- ---- the end of the run
    pub ends_at_phases : count ≡ phases → (made : ℕ) → made ≡ s.made → IsForeverRun passes net phases patterns s (Stops (Cause.Phases made))
    ends_at_phases all made e = subst (λ (n : ℕ). IsForeverRun passes net phases patterns s (Stops (Cause.Phases n))) (sym e)
        (run_of (Stops (Cause.Phases s.made)) (at_phases (gone.made ∙ all)))

    -- The returned thin flow, if no phase is added.
    pub ends_never : count < phases → (answer : Option ThinFlow) (thin : ThinFlow) → answer ≡ Some thin → (after : Standing)
        → MatchOption answer (GoesToEnd passes net patterns s after) (λ thin. GoesForever passes net patterns s thin.pattern (tail_by thin)) → (IsSome answer → after ≡ s)
        → IsForeverRun passes net phases patterns after (NeverEnds thin.pattern (tail_by thin))
    ends_never may answer thin is after g stays =
        let goes_forever = subst (λ (o : Option ThinFlow). MatchOption o (GoesToEnd passes net patterns s after)
        (λ thin. GoesForever passes net patterns s thin.pattern (tail_by thin))) is g in
        let same : after ≡ s = subst (λ (o : Option ThinFlow). IsSome o → after ≡ s) is stays refl in
        subst (λ (t : Standing). IsForeverRun passes net phases patterns t (NeverEnds thin.pattern (tail_by thin))) (sym same)
        (run_of (NeverEnds thin.pattern (tail_by thin)) (never_ends (may_go may) goes_forever))

    pub ends_by_fault : count < phases → (fault : StepFault) → IsCauseOn passes net patterns s fault → (after : Standing) → after ≡ s → (phase : ℕ)
        → phase ≡ suc after.made → (stop : Cause ℚ) → cause_of phase fault ≡ Some stop → IsForeverRun passes net phases patterns after (Stops stop)
    ends_by_fault may fault h after same phase next stop e =
        let is : cause_of (suc s.made) fault ≡ Some stop =
        ap (λ (n : ℕ). cause_of n fault) (sym (next ∙ ap (λ (t : Standing). suc t.made) same)) ∙ e in
        subst (λ (t : Standing). IsForeverRun passes net phases patterns t (Stops stop)) (sym same)
        (run_of (Stops stop) (fails (may_go may) (stands_stop (FailsOn passes net patterns s) (suc s.made) fault h stop is)))
