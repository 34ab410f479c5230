-- What a request to resume a report gives, from what was read of its report and what resuming answers.
use Rattle.std.proofs.Common.{◌≡◌, ◌⊎◌, ℕ, List, refl, inl, inr, Err}
use Rattle.nf_app.proofs.Common.{ℚ, ◌≤ℚ◌, ◌<ℚ◌, passes_Q, PassedAt, Equilibrium, Named, IsNamed, Report, IsWellFormed, report_in, FileFault, ReportRule}
use Rattle.nf_app.proofs.Common.{IfBroken, IsShortFlow, EndsAtItsLabels, resume_list, IsResumedReport, GoesOnFrom, IsRefusedReport, Refusal, Resume}
use Rattle.nf_app.proofs.Common.{bounds_to, Solved, Checked, Passes, Earlier, refused_answer, refusal_of_report, IsReportText, IsResultOf}
use Rattle.nf_check_def.specs.declared.Answer.{Answer as Verdict}
use Rattle.nf_phase_run_laws.specs.ReadableLaws.{ReadsBack}
use Rattle.nf_app.proofs.Reports.{no_report}

module _ (n : Named) (file name text : List ℕ) (horizon : ℚ) (phases patterns : ℕ) where
  abbrev Answers : Refusal → Type 0
  Answers refusal = (refusal ≡ Refusal.NoMemory) ⊎ IsResultOf n text (Resume file name horizon phases patterns) (refused_answer refusal)

  pub old_refused : (named : IsNamed n) (fault : FileFault ReportRule) → IfBroken fault (λ broken. report_in n text ≡ Err broken) → Answers (refusal_of_report fault)
  old_refused named (FileFault.Broken rule line) e =
      inr (inr (inl (record { rule = rule; line = line }, refl, no_report n named text (record { rule = rule; line = line }) e)))
  old_refused named FileFault.Memory e = inl refl

  module _ (old : Report) (read : IsReportText n text old) where
    pub gone_on_given : (new : Report) (made : ℕ) → old.flow.reached ≤ℚ horizon → IsResumedReport passes_Q n.net (bounds_to horizon phases patterns) old made new → IsWellFormed n.net new
        → Equilibrium n.net new.flow → GoesOnFrom n.net old.flow new.flow → IsShortFlow n.net new.flow → EndsAtItsLabels n.net new.flow → ReadsBack n new
        → IsResultOf n text (Resume file name horizon phases patterns) (Solved n new)
    gone_on_given new made later resumed formed equilibrium on short ends back = inl (record {
      old = old;
      read = read;
      not_earlier = later;
      new = new;
      is = refl;
      well_formed = formed;
      equilibrium = equilibrium;
      goes_on = on;
      made = made;
      resumed = resumed;
      short = short;
      ends = ends;
      reads_back = back;
    })

    pub no_start_given : (verdict : Verdict ℕ ℕ ℚ) → old.flow.reached ≤ℚ horizon → IsRefusedReport passes_Q n.net old verdict
        → IsResultOf n text (Resume file name horizon phases patterns) (Checked n verdict)
    no_start_given verdict later refused = inr (inr (inr (inr (verdict, refl, record { old = old; read = read; not_earlier = later; refused = refused }))))

    pub passes_given : (at : PassedAt ℚ) → old.flow.reached ≤ℚ horizon → resume_list passes_Q n.net old ≡ Err at
        → IsResultOf n text (Resume file name horizon phases patterns) (Passes at)
    passes_given at later passes = inr (inr (inl (at, refl, record { old = old; read = read; not_earlier = later; passes = passes })))

    pub earlier_given : horizon <ℚ old.flow.reached → IsResultOf n text (Resume file name horizon phases patterns) Earlier
    earlier_given earlier = inr (inr (inr (inl (refl, record { old = old; read = read; earlier = earlier }))))
