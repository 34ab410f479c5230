-- What a text is as a report, from what was read of it.
use Rattle.std.proofs.Common.{◌≡◌, ◌≢◌, ℕ, List, ap, ◌∙◌, Ok, Err}
use Rattle.nf_app.proofs.Common.{Named, IsNamed, Report, IsWellFormed, report_text, ReportBroken, report_in, report_kept, Ok_not_Err, IsReportText}
use Rattle.nf_app.proofs.Common.{IsNoReportText}
use Rattle.nf_report_laws.specs.Readable.{IsReadable}
use Rattle.nf_report_laws.proofs.ReportBack.{report_back}
use Rattle.nf_report_laws.proofs.ReportFit.{fit}

module _ (n : Named) (named : IsNamed n) (text : List ℕ) where
  pub a_report : (report : Report) → report_in n text ≡ Ok report → IsReportText n text report
  a_report report e = let kept = report_kept n text report named e in record { is_text = kept.2; reads = e; well_formed = kept.0; readable = kept.1 }

  pub no_report : (broken : ReportBroken) → report_in n text ≡ Err broken → IsNoReportText n text broken
  no_report broken e = record { breaks = e; no_text = no_text }
    where
      no_text : (report : Report) → IsWellFormed n.net report → IsReadable report → text ≢ report_text n report
      no_text report formed readable is =
          Ok_not_Err (report_in n text) report broken (ap (λ (t : List ℕ). report_in n t) is ∙ report_back n report named (fit n report named formed readable)) e
