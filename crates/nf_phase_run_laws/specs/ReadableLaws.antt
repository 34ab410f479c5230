-- Reading back the report of a phase run.
use Rattle.std.specs.Prelude.{◌≡◌, Ok}
use Rattle.nf_frac_def.specs.Passing.{passes_Q}
use Rattle.nf_net_def.specs.Named.{Named}
use Rattle.nf_net_def.specs.WellNamed.{IsFraction, IsNamed}
use Rattle.nf_net_def.specs.Report.{Report, IsWellFormed, report_text}
use Rattle.nf_thin_def.specs.PhaseRun.{Bounds, IsRunReport}
use Rattle.nf_report_def.specs.ReportFile.{report_in}
use Rattle.nf_report_laws.specs.Readable.{IsCount, IsReadable}

-- the horizon is a fraction of a file, and the budgets have at most 64 bits
pub record AreReadable (bounds : Bounds) : Type 0 where
  pub horizon : IsFraction bounds.horizon
  pub phases : IsCount bounds.phases
  pub patterns : IsCount bounds.patterns

-- The numbers in the report of a run are fractions of a file, and its counts have at most 64 bits. This holds for the curves and for the
-- cause of a stop.
abbrev pub RunReportIsReadable : Type 0
RunReportIsReadable = (n : Named) (bounds : Bounds) (report : Report) → IsNamed n → AreReadable bounds
    → IsRunReport passes_Q n.net bounds report → IsReadable report

-- Reading the text returns the report. Every well-formed and readable report with the same text is equal to it.
pub record ReadsBack (n : Named) (report : Report) : Type 0 where
  pub reads : report_in n (report_text n report) ≡ Ok report
  pub only : (other : Report) → IsWellFormed n.net other → IsReadable other → report_text n report ≡ report_text n other → report ≡ other

abbrev pub RunReportReadsBack : Type 0
RunReportReadsBack = (n : Named) (bounds : Bounds) (report : Report) → IsNamed n → AreReadable bounds → IsWellFormed n.net report
    → IsRunReport passes_Q n.net bounds report
    → ReadsBack n report
