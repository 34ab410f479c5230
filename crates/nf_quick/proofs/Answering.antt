-- The answer of `quickest`, from the pushes and the computations after them.
use Rattle.std.proofs.Common.{◌≡◌, ℕ, ◌≤◌, Bool, true, false, inl, inr, List, unwrap_or, refl, sym, ap, ◌∙◌, Result, Ok, Err, IfOk, is_some}
use Rattle.nf_quick.proofs.Common.{ℚ, 0ℚ, ◌≤ℚ◌, ◌<ℚ◌, le_ℚ, le_of_test, lt_of_test, Passing, Halt, Checked, Stops, at_part, ◌>>=◌, Network, IsNetwork}
use Rattle.nf_quick.proofs.Common.{IsLimited, Quick, QuickStanding, Pushed, Done, OverBudget, QuickOutcome, FoundQuick, Budget, start_of, nothing}
use Rattle.nf_quick.proofs.Common.{push_up_to, finish_list, answer_list, quickest_of, IsQuickFlow, ok_of_part, stopped, goes_on, of_halt, IsPushResult}
use Rattle.nf_quick.proofs.Common.{IsAnswered, IsInOrder}
use Rattle.nf_rational_laws.proofs.Order.{≤ℚ_antisymm}
use Rattle.nf_frac_def.specs.declared.Part.TheVariants as Part
use Rattle.nf_quick_def.specs.Quick.{quickest_list}
use Rattle.nf_quick_laws.proofs.Start.{IsSound-zeros, flow_value-zeros, cost_of-zeros}
use Rattle.nf_quick_laws.proofs.Joined.{IsReached, EndsWell, EndsWell-list}
use Rattle.nf_quick_laws.proofs.Nothing.{IsQuickFlow-list, IsMade-list, EndsAtBudget-list}
use Rattle.nf_quick.specs.declared.fault.QuickFault.{QuickFault}

module _ (passes : Passing) (net : Network) (amount : ℚ) (augments : ℕ) where
  -- ---- the amount 0
  pub nothing_answered : (quick : Quick) → 0ℚ ≤ℚ amount → le_ℚ amount 0ℚ ≡ true → quick ≡ nothing net → IsAnswered passes net amount augments (Ok quick)
  unfolding quickest_list
  nothing_answered quick h t e = (
    inl (≤ℚ_antisymm amount 0ℚ (le_of_test amount 0ℚ t) h),
    ap (λ (b : Bool). at_part Part.Quick (quickest_of passes net amount b augments)) t ∙ ap (λ (q : Quick). Ok (FoundQuick q)) (sym e),
  )

  -- ---- another amount; each walk from source to sink has a link with a capacity
  module _ (some : le_ℚ amount 0ℚ ≡ false) (limited : IsLimited net) where
    abbrev pushes : Checked Pushed
    pushes = push_up_to passes net amount augments (start_of net)

    abbrev whole : Checked QuickOutcome
    whole = quickest_list passes net amount augments

    abbrev answer : Pushed → Checked QuickOutcome
    answer pushed = answer_list passes net amount pushed

    opened : whole ≡ (pushes >>= answer)
    unfolding quickest_list
    opened = ap (λ (b : Bool). quickest_of passes net amount b augments) some

    pub pushes_stop : (fault : QuickFault) → IsPushResult passes net amount augments (Err fault) → IsAnswered passes net amount augments (Err fault)
    pushes_stop (QuickFault.Budget walks) e = (inr limited, ap (at_part Part.Quick) (opened ∙ goes_on pushes answer (OverBudget walks.items) e))
    pushes_stop (QuickFault.Unbounded links) e = absurd e
    pushes_stop (QuickFault.Passed at) e = (inr limited, ap (at_part Part.Quick) opened ∙ stopped pushes answer at e)
    pushes_stop QuickFault.Memory e = tt

    -- There is a time after the pushes: a walk leads from source to sink, so at least one walk was pushed.
    pub has_time : IsNetwork net → (s : QuickStanding) → at_part Part.Quick pushes ≡ Ok (Done s) → is_some s.time ≡ true
    has_time good s came =
        let above : 0ℚ <ℚ amount = lt_of_test amount 0ℚ some in
        let start : IsReached passes net amount good limited above (start_of net) =
        record { sound = IsSound-zeros net good; rate = sym (flow_value-zeros net good); cost = sym (cost_of-zeros net good); time = (refl, refl, refl) } in
        let ends : EndsWell passes net amount good limited above augments (start_of net) (Done s) =
        EndsWell-list passes net amount good limited above augments (start_of net) (Done s) start (ok_of_part pushes (Done s) came) in
        ap is_some ends.0.time_is

    -- The state after the pushes is completed to an answer.
    module _ (s : QuickStanding) (came : at_part Part.Quick pushes ≡ Ok (Done s)) (flows : List ℚ) (time : ℚ) (flows_are : flows ≡ s.flows) (time_is : time ≡ unwrap_or s.time 0ℚ) where
      abbrev finished : Checked Quick
      finished = finish_list passes net amount flows time

      abbrev found : Quick → Checked QuickOutcome
      found quick = Ok (FoundQuick quick)

      then_finish : whole ≡ (finished >>= found)
      then_finish = opened ∙ goes_on pushes answer (Done s) came
          ∙ sym (ap (λ (l : List ℚ). finish_list passes net amount l time >>= found) flows_are ∙ ap (λ (t : ℚ). finish_list passes net amount s.flows t >>= found) time_is)

      pub finish_stops : (h : Halt ℚ) → Stops (λ (q : ℚ). q) h (at_part Part.Quick finished) → IsAnswered passes net amount augments (Err (of_halt h))
      finish_stops (Halt.Passed at) e = (inr limited, ap (at_part Part.Quick) then_finish ∙ stopped finished found at e)
      finish_stops Halt.Memory e = tt

      pub finish_answered : (quick : Quick) → at_part Part.Quick finished ≡ Ok quick → IsAnswered passes net amount augments (Ok quick)
      finish_answered quick e = (inr limited, ap (at_part Part.Quick) (then_finish ∙ goes_on finished found quick e))

  -- ---- the answer is a quickest flow
  pub answered_is_quick : IsNetwork net → 0ℚ ≤ℚ amount → (result : Result Quick QuickFault) → IsAnswered passes net amount augments result → IfOk result (IsQuickFlow net amount)
  answered_is_quick good h (Ok quick) answered =
      IsQuickFlow-list net good passes amount augments quick h answered.0 (ok_of_part (quickest_list passes net amount augments) (FoundQuick quick) answered.1)
  answered_is_quick good h (Err fault) answered = tt

  -- ---- the answer results from walks pushed in order
  pub answered_in_order : IsNetwork net → 0ℚ ≤ℚ amount → 1 ≤ augments → (result : Result Quick QuickFault) → IsAnswered passes net amount augments result
      → IsInOrder net amount augments result
  answered_in_order good h some (Ok quick) answered =
      (IsMade-list net good passes amount augments quick h answered.0 (ok_of_part (quickest_list passes net amount augments) (FoundQuick quick) answered.1)).1
  answered_in_order good h some (Err (QuickFault.Budget walks)) answered =
      EndsAtBudget-list net good passes amount augments walks.items some answered.0 (ok_of_part (quickest_list passes net amount augments) (Budget walks.items) answered.1)
  answered_in_order good h some (Err (QuickFault.Unbounded links)) answered = tt
  answered_in_order good h some (Err (QuickFault.Passed at)) answered = tt
  answered_in_order good h some (Err QuickFault.Memory) answered = tt
