-- A phase of greatest length: its end and its result.
use Rattle.std.proofs.Common.{◌≡◌, ℕ, suc, List, refl, sym, subst, ◌∙◌, Option, Some, None, Result, Ok, Err, IfErr}
use Rattle.nf_phase.proofs.Common.{IsErrAnd, ℚ, Passing, Checked, at_part, Extend, PassedAt, Network, hops, slacks_of, Standing, end_list, GoesToEnd}
use Rattle.nf_phase.proofs.Common.{GoesForever, FailsOn, part_ok, StepFault, PhaseStart, Phase, IsFaultOf, IsCauseOn, tail_by, after_phase, IsFound}
use Rattle.nf_phase.proofs.Common.{FindsNone, ListsPass, LeadsOn}
use Rattle.nf_net_def.specs.declared.Cause.TheVariants as Cause
use Rattle.nf_thin.specs.ThinFlow.{ThinFlow}
use Rattle.nf_phase.proofs.Stepped.{made_goes}
use Rattle.nf_phase.proofs.Found.{part_err, by_fault, stands_as, none_on, extend_on, lists_on}

-- ---- the cause for which there is no thin flow
pub found_none_on : (passes : Passing) (net : Network) (patterns : ℕ) (s : Standing) {A : Type 0} (result : Result A StepFault) (fault : StepFault) → IsErrAnd result (λ f. f ≡ fault)
    → IsFaultOf (FindsNone passes net patterns s) (suc s.made) fault → IfErr result (IsCauseOn passes net patterns s)
found_none_on passes net patterns s result fault e h =
    by_fault result fault (IsCauseOn passes net patterns s) e (stands_as (FindsNone passes net patterns s) (FailsOn passes net patterns s)
    (suc s.made) fault (none_on passes net patterns s) h)

-- ---- with a thin flow
module _ (passes : Passing) (net : Network) (patterns : ℕ) (s : Standing) (found : PhaseStart) (is : IsFound passes net patterns s found)
    (slacks slopes : List ℚ) (time : ℚ) (same_slacks : slacks ≡ found.slacks.items) (same_slopes : slopes ≡ found.thin.slopes.items) (same_time : time ≡ s.time) where
  abbrev ends : List ℚ → Checked (Option ℚ)
  ends slopes = end_list passes net (slacks_of (hops net) s.labels) slopes s.time

  ends_is : ends found.thin.slopes.items ≡ end_list passes net slacks slopes time
  ends_is = rw (same_slacks ∙ is.slacks, same_slopes, same_time) refl

  pub end_passes : (at : PassedAt ℚ) → Err at ≡ at_part Extend (end_list passes net slacks slopes time) → {A : Type 0} (result : Result A StepFault)
      → IsErrAnd result (λ f. f ≡ StepFault.Passed at)
      → IfErr result (IsCauseOn passes net patterns s)
  end_passes at h result e =
      let p = part_err Extend (end_list passes net slacks slopes time) at (sym h) in
      by_fault result (StepFault.Passed at) (IsCauseOn passes net patterns s) e
      (subst (λ (at : PassedAt ℚ). FailsOn passes net patterns s (Cause.Passed (suc s.made) None at)) p.2
      (extend_on passes net patterns s is.seeks.0 found.thin.pattern found.thin.flows.items found.thin.slopes.items is.seeks.1 p.0 (ends_is ∙ p.1)))

  -- The phase can have any length.
  pub goes_forever : Ok None ≡ at_part Extend (end_list passes net slacks slopes time) → GoesForever passes net patterns s found.thin.pattern (tail_by found.thin)
  goes_forever h = record { place = is.seeks.0; finds = is.seeks.1; no_end = ends_is ∙ part_ok Extend (end_list passes net slacks slopes time) None h }

  -- This is the end of the phase.
  module _ (end : ℚ) (ended : Ok (Some end) ≡ at_part Extend (end_list passes net slacks slopes time)) where
    end_is : ends found.thin.slopes.items ≡ Ok (Some end)
    end_is = ends_is ∙ part_ok Extend (end_list passes net slacks slopes time) (Some end) ended

    pub lists_pass : {A : Type 0} (result : Result A StepFault) (fault : StepFault) → IsErrAnd result (λ f. f ≡ fault)
        → IsFaultOf (ListsPass passes net end s found.thin.pattern found.thin.flows.items found.thin.slopes.items) (suc s.made) fault → IfErr result (IsCauseOn passes net patterns s)
    lists_pass result fault e h =
        by_fault result fault (IsCauseOn passes net patterns s) e
        (stands_as (ListsPass passes net end s found.thin.pattern found.thin.flows.items found.thin.slopes.items) (FailsOn passes net patterns s) (suc s.made) fault
        (lists_on passes net patterns s is.seeks.0 found.thin.pattern found.thin.flows.items found.thin.slopes.items is.seeks.1 end end_is) h)

    pub goes_to_end : (phase : Phase) → LeadsOn passes net end patterns s phase → phase.thin ≡ found.thin → (t : Standing) → t ≡ after_phase net s phase
        → GoesToEnd passes net patterns s t
    goes_to_end phase leads same t e = record {
      end = end;
      goes = made_goes passes net end patterns s phase leads t e;
      is_end = subst (λ (thin : ThinFlow). ends thin.slopes.items ≡ Ok (Some end)) (sym same) end_is;
    }
