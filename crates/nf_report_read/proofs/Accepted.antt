-- The answer for a text, by its reading.
use Rattle.std.proofs.Common.{◌≡◌, ℕ, List, Result, Ok, Err, MatchResult, IfOk, sym, ap, ◌∙◌}
use Rattle.nf_report_read.proofs.Common.{Named, IsNamed, report_in, FileFault, ReportRule, Report, IfBroken, seen_report, ReturnsReport}
use Rattle.nf_rational_laws.proofs.Results.{same_Ok}
use Rattle.nf_net_def.specs.Report as formats
use Rattle.nf_net_def.specs.Report.{IsWellFormed, report_text}
use Rattle.nf_report_laws.specs.Readable.{IsReadable}
use Rattle.nf_report_laws.proofs.ReportBack.{report_back}
use Rattle.nf_report_laws.proofs.ReportFit.{fit}
use Rattle.nf_report_laws.proofs.ReportKept.{report_kept}

abbrev pub Answers : Named → List ℕ → Result Report (FileFault ReportRule) → Type 0
Answers n text result = MatchResult result (λ report. report_in n text ≡ Ok (seen_report report)) (λ fault. IfBroken fault (λ broken. report_in n text ≡ Err broken))

module _ (n : Named) (text : List ℕ) (named : IsNamed n) where
  pub formed : (result : Result Report (FileFault ReportRule)) → Answers n text result → IfOk result (λ report. IsWellFormed n.net (seen_report report))
  formed (Ok report) e = (report_kept n text (seen_report report) named e).0
  formed (Err fault) e = tt

  pub its_text : (result : Result Report (FileFault ReportRule)) → Answers n text result → IfOk result (λ report. text ≡ report_text n (seen_report report))
  its_text (Ok report) e = (report_kept n text (seen_report report) named e).2
  its_text (Err fault) e = tt

  pub all_read : (result : Result Report (FileFault ReportRule)) → Answers n text result → (report : formats.Report) → IsWellFormed n.net report
      → IsReadable report → text ≡ report_text n report → ReturnsReport report result
  all_read (Ok read) e report well readable is =
      let same : report_in n text ≡ Ok report = ap (report_in n) is ∙ report_back n report named (fit n report named well readable) in
      same_Ok (seen_report read) report (sym e ∙ same)
  all_read (Err (FileFault.Broken rule line)) e report well readable is =
      let same : report_in n text ≡ Ok report = ap (report_in n) is ∙ report_back n report named (fit n report named well readable) in
      absurd (cc)
  all_read (Err FileFault.Memory) e report well readable is = tt
