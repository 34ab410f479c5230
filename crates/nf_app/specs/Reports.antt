-- Texts of reports.
use Rattle.std.specs.Prelude.{◌≡◌, ◌≢◌, ℕ, List, Ok, Err}
use Rattle.nf_net_def.specs.Named.{Named}
use Rattle.nf_net_def.specs.Report.{Report, IsWellFormed, report_text}
use Rattle.nf_report_def.specs.ReportFile.{ReportBroken, report_in}
use Rattle.nf_report_laws.specs.Readable.{IsReadable}

-- The text is that of this report of the network, and is read as just this report, which is well formed and has readable numbers.
pub record IsReportText (n : Named) (text : List ℕ) (report : Report) : Type 0 where
  pub is_text : text ≡ report_text n report
  pub reads : report_in n text ≡ Ok report
  pub well_formed : IsWellFormed n.net report
  pub readable : IsReadable report

-- The text breaks this rule first, and is the text of no such report.
pub record IsNoReportText (n : Named) (text : List ℕ) (broken : ReportBroken) : Type 0 where
  pub breaks : report_in n text ≡ Err broken
  pub no_text : (report : Report) → IsWellFormed n.net report → IsReadable report → text ≢ report_text n report
