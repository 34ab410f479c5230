-- Theorems on the report of a resumed run: it can be read back, and if the run stops because no pattern is left, there is no thin flow.
use Rattle.std.specs.Prelude.{◌≡◌, ℕ, List, Ok}
use Rattle.nf_frac_def.specs.Passing.{Passing, passes_Q}
use Rattle.nf_model.specs.Network.{Network, IsNetwork}
use Rattle.nf_net_def.specs.Named.{Named}
use Rattle.nf_net_def.specs.WellNamed.{IsNamed}
use Rattle.nf_net_def.specs.Report.{Report, IsWellFormed}
use Rattle.nf_thin_def.specs.PhaseRun.{Bounds}
use Rattle.nf_report_def.specs.ReportFile.{report_in}
use Rattle.nf_report_laws.specs.Readable.{IsReadable}
use Rattle.nf_phase_run_laws.specs.ReadableLaws.{AreReadable, ReadsBack}
use Rattle.nf_complete_def.specs.Reached.{StopsForNoThinFlow}
use Rattle.nf_resume_def.specs.Meanings.{IsResumedReport}

-- The new report is readable if the resumed one is: its numbers are fractions of a file, and its counts have at most 64 bits.
abbrev pub ResumedReportIsReadable : Type 0
ResumedReportIsReadable = (n : Named) (bounds : Bounds) (old : Report) (phases : ℕ) (report : Report) → IsNamed n → AreReadable bounds
    → IsWellFormed n.net old → IsReadable old
    → IsResumedReport passes_Q n.net bounds old phases report → IsReadable report

-- If the resumed report was read from a text, the text of the new report reads back as that report.
abbrev pub ResumedReportReadsBack : Type 0
ResumedReportReadsBack = (n : Named) (text : List ℕ) (bounds : Bounds) (old : Report) (phases : ℕ) (report : Report) → IsNamed n
    → AreReadable bounds → report_in n text ≡ Ok old
    → IsWellFormed n.net report → IsResumedReport passes_Q n.net bounds old phases report → ReadsBack n report

-- If a resumed run stopped because no pattern was left, no thin flow extends its flow.
abbrev pub ResumedStopsForNoThinFlow : Type 0
ResumedStopsForNoThinFlow = (passes : Passing) (net : Network) (bounds : Bounds) (old : Report) (phases : ℕ) (report : Report)
    → IsNetwork net → IsWellFormed net old
    → IsResumedReport passes net bounds old phases report → StopsForNoThinFlow net report.stop report.flow
