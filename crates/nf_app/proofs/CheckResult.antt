-- What a request to check a report gives, from what was read of its report and what the checker answers.
use Rattle.std.proofs.Common.{◌≡◌, ◌⊎◌, ℕ, List, refl, inl, inr, Ok, Err}
use Rattle.nf_app.proofs.Common.{ℚ, Halt, passes_Q, Stops, Named, IsNamed, Report, check_list, IsExact, report_in, FileFault, ReportRule, IfBroken, Refusal}
use Rattle.nf_app.proofs.Common.{Check, Checked, refused_answer, refusal_of_report, refusal_of_halt, IsResultOf}
use Rattle.nf_check_def.specs.declared.Answer.{Answer as Verdict}
use Rattle.nf_check_def.specs.Rules.{Checks}
use Rattle.nf_app.proofs.Reports.{a_report, no_report}

module _ (n : Named) (named : IsNamed n) (file name text : List ℕ) where
  abbrev Answers : Refusal → Type 0
  Answers refusal = (refusal ≡ Refusal.NoMemory) ⊎ IsResultOf n text (Check file name) (refused_answer refusal)

  pub report_refused : (fault : FileFault ReportRule) → IfBroken fault (λ broken. report_in n text ≡ Err broken) → Answers (refusal_of_report fault)
  report_refused (FileFault.Broken rule line) e =
      inr (inr (inl (record { rule = rule; line = line }, refl, no_report n named text (record { rule = rule; line = line }) e)))
  report_refused FileFault.Memory e = inl refl

  module _ (report : Report) (read : report_in n text ≡ Ok report) where
    pub checking_stopped : (halt : Halt ℚ) → Stops (λ (q : ℚ). q) halt (check_list passes_Q n.net report.flow) → Answers (refusal_of_halt halt)
    checking_stopped (Halt.Passed at) e = inr (inr (inr (at, refl, record { report = report; read = a_report n named text report read; passes = e })))
    checking_stopped Halt.Memory e = inl refl

    pub verdict_given : (verdict : Verdict ℕ ℕ ℚ) → check_list passes_Q n.net report.flow ≡ Ok verdict → Checks n.net report.flow verdict → IsExact n.net report.flow verdict
        → IsResultOf n text (Check file name) (Checked n verdict)
    verdict_given verdict e checks exact = inl (record {
      report = report;
      read = a_report n named text report read;
      verdict = verdict;
      is = refl;
      exact = exact;
      first_broken = checks;
      computed = e;
    })
