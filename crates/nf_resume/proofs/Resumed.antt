-- The result for a report: from its check, then from the run at the end of its flow, and then from the later phases of that run.
use Rattle.std.proofs.Common.{◌≡◌, ℕ, Bool, true, false, ⊎_elim, refl, sym, ap, subst, ◌∙◌, Result, Ok, Err, IfErr, OnOk, MatchBool, MatchResult}
use Rattle.nf_resume.proofs.Common.{ℚ, ◌≤ℚ◌, ◌<ℚ◌, lt_ℚ, Passing, passes_Q, PassedAt, Halt, Stops, at_part, ◌>>=◌, Network, IsNetwork, Pattern, Flow}
use Rattle.nf_resume.proofs.Common.{Equilibrium, Standing, Bounds, after_ok, after_err, stops_on, restore_list, Stands, cut_flow, after_check, IsFinished}
use Rattle.nf_resume.proofs.Common.{of_halt, IsRefusedReport, IsCauseAtAnyHorizon, IsResumeFault}
use Rattle.nf_rational_laws.proofs.Tests.{less_of_test, lt_ℚ_cases}
use Rattle.nf_frac_def.specs.declared.Part.TheVariants.{Curve}
use Rattle.nf_net_def.specs.Report.{Report}
use Rattle.nf_check_def.specs.declared.Answer.{Answer}
use Rattle.nf_check_def.specs.declared.Answer.TheVariants.{Yes, No}
use Rattle.nf_check_def.specs.Rules.{Checks}
use Rattle.nf_check_def.specs.CheckList.{check_list}
use Rattle.nf_check.specs.Answers.{IsExact}
use Rattle.nf_resume_def.specs.Resuming.{restart_list, resume_list}
use Rattle.nf_resume_def.specs.Meanings.{GoesOnFrom, IsResumedReport}
use Rattle.nf_resume_laws.proofs.Stepping.{resumed-goes_on}
use Rattle.nf_resume.specs.declared.fault.ResumeFault.{ResumeFault}

-- Whether a time is before another.
pub below_or_not : (b : Bool) (x y : ℚ) → b ≡ lt_ℚ x y → MatchBool b (x <ℚ y) (y ≤ℚ x)
below_or_not true x y e = less_of_test x y (sym e)
below_or_not false x y e = ⊎_elim (λ (w : (lt_ℚ x y ≡ true) × (x <ℚ y)). absurd (let f = w.0 in cc)) (λ (w : (lt_ℚ x y ≡ false) × (y ≤ℚ x)). w.1) (lt_ℚ_cases x y)

module _ (passes : Passing) (net : Network) (report : Report) where
  -- ---- the check
  abbrev answered : Result (Answer ℕ ℕ ℚ) (PassedAt ℚ)
  answered = check_list passes net report.flow

  by_answer : (r : Result (Answer ℕ ℕ ℚ) (PassedAt ℚ)) → answered ≡ r → resume_list passes net report ≡ (r >>= after_check passes net report)
  unfolding resume_list
  by_answer r e = ap (λ (r : Result (Answer ℕ ℕ ℚ) (PassedAt ℚ)). r >>= after_check passes net report) e

  -- The flow is no equilibrium.
  refused : (answer : Answer ℕ ℕ ℚ) → (answer ≡ Yes → ⊥) → answered ≡ Ok answer → Checks net report.flow answer → IsExact net report.flow answer
      → IsRefusedReport passes net report answer
  refused Yes other e rules exact = absurd (other refl)
  refused (No rule subject time left right) other e rules exact = record { answers = e; ends = by_answer (Ok (No rule subject time left right)) e; rules = rules; none = exact.1 }

  -- Facts on an answer that is or isn't a No.
  abbrev Said : Answer ℕ ℕ ℚ → Result (Unit {0}) ResumeFault → Type 0
  Said answer result = MatchResult result (λ _. answer ≡ Yes) (λ fault. (fault ≡ ResumeFault.No answer) × (answer ≡ Yes → ⊥))

  module _ (answer : Answer ℕ ℕ ℚ) (is : answered ≡ Ok answer) where
    pub said_yes : (result : Result (Unit {0}) ResumeFault) → Said answer result → OnOk result (answered ≡ Ok Yes)
    said_yes (Ok x) s = is ∙ ap Ok s
    said_yes (Err fault) s = tt

    pub said_equilibrium : (result : Result (Unit {0}) ResumeFault) → Said answer result → IsExact net report.flow answer → OnOk result (Equilibrium net report.flow)
    said_equilibrium (Ok x) s exact = subst (IsExact net report.flow) s exact
    said_equilibrium (Err fault) s exact = tt

    pub said_no : (result : Result (Unit {0}) ResumeFault) → Said answer result → Checks net report.flow answer → IsExact net report.flow answer
        → IfErr result (IsCauseAtAnyHorizon passes net report)
    said_no (Ok x) s rules exact = tt
    said_no (Err fault) s rules exact = subst (IsCauseAtAnyHorizon passes net report) (sym s.0) (refused answer s.1 is rules exact)

  -- An operation of the check exceeds its bound.
  pub check_stops : (h : Halt ℚ) → Stops (λ (q : ℚ). q) h answered → IsCauseAtAnyHorizon passes net report (of_halt h)
  check_stops (Halt.Passed at) s = by_answer (Err at) s
  check_stops Halt.Memory s = tt

  -- ---- the run at the end of the flow
  abbrev restarted : Result Standing (PassedAt ℚ)
  restarted = at_part Curve (restart_list passes net report)

  cut_goes : (p : PassedAt ℚ) → at_part Curve (cut_flow passes net report.flow) ≡ Err p → restarted ≡ Err p
  unfolding restart_list
  cut_goes p e = after_err Curve (cut_flow passes net report.flow) _ p e

  pub cut_stops : (h : Halt ℚ) → Stops (λ (q : ℚ). q) h (at_part Curve (cut_flow passes net report.flow)) → Stops (λ (q : ℚ). q) h restarted
  cut_stops h s = stops_on h (at_part Curve (cut_flow passes net report.flow)) restarted cut_goes s

  pub restored : (flow : Flow) (last : Pattern) → at_part Curve (cut_flow passes net report.flow) ≡ Ok flow → last ≡ report.last
      → at_part Curve (restore_list passes flow last) ≡ restarted
  unfolding restart_list
  restored flow last e same = ap (λ (l : Pattern). at_part Curve (restore_list passes flow l)) same ∙ sym (after_ok Curve (cut_flow passes net report.flow) _ flow e)

  module _ (yes : answered ≡ Ok Yes) where
    after_yes : (r : Result Standing (PassedAt ℚ)) → restarted ≡ r → resume_list passes net report ≡ (r >>= λ first. Ok (Stands first))
    after_yes r e = by_answer (Ok Yes) yes ∙ ap (λ (r : Result Standing (PassedAt ℚ)). r >>= λ first. Ok (Stands first)) e

    pub restart_stops : (h : Halt ℚ) → Stops (λ (q : ℚ). q) h restarted → IsCauseAtAnyHorizon passes net report (of_halt h)
    restart_stops (Halt.Passed at) s = after_yes (Err at) s
    restart_stops Halt.Memory s = tt

    pub list_stands : (first : Standing) → restarted ≡ Ok first → resume_list passes net report ≡ Ok (Stands first)
    list_stands first e = after_yes (Ok first) e

  -- ---- the horizon is not before the departure reached
  pub in_time : (horizon : ℚ) (fault : ResumeFault) → report.flow.reached ≤ℚ horizon → IsCauseAtAnyHorizon passes net report fault → IsResumeFault passes net report horizon fault
  in_time horizon (ResumeFault.Earlier reached) later cause = absurd cause
  in_time horizon (ResumeFault.No answer) later cause = (later, cause)
  in_time horizon (ResumeFault.Passed at) later cause = (later, cause)
  in_time horizon ResumeFault.Memory later cause = (later, cause)

-- ---- the run continued
module _ (net : Network) (bounds : Bounds) (report : Report) (phases : ℕ) (new : Report) (yes : check_list passes_Q net report.flow ≡ Ok Yes)
    (first : Standing) (stands : at_part Curve (restart_list passes_Q net report) ≡ Ok first) (finished : IsFinished net bounds first phases new) where
  pub is_resumed : IsResumedReport passes_Q net bounds report phases new
  is_resumed = record {
    last = finished.last;
    stop = finished.stop;
    run = record { first = first; stands = list_stands passes_Q net report yes first stands; runs = finished.runs };
    made = finished.made;
    report_is = finished.report_is;
  }

  pub went_on : IsNetwork net → Equilibrium net report.flow → GoesOnFrom net report.flow new.flow
  went_on good is = (resumed-goes_on passes_Q net bounds report phases new good is is_resumed).1
