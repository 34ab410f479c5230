-- Reports and faults in contracts.
use Rattle.std.specs.Prelude.{◌≡◌, Result, Ok, Err}
use Rattle.nf_frac_def.specs.Checked.{◌>>=◌}
use Rattle.nf_curve.specs.Flows.{seen_flow}
use Rattle.nf_net_def.specs.Report as formats
use Rattle.nf_report_def.specs.ReportLines.{ReportDraft}
use Rattle.nf_report_def.specs.ReportFile.{ReportBroken, if_at_end}
use Rattle.nf_report_read.specs.declared.report.Report.{Report}
use Rattle.nf_text.specs.declared.fault.FileFault.{FileFault}
use Rattle.nf_report_def.specs.declared.ReportRule.{ReportRule}

-- P holds of the broken rule, unless an allocation failed
abbrev pub IfBroken : FileFault ReportRule → (ReportBroken → Type 0) → Type 0
IfBroken (FileFault.Broken rule line) P = P (record { rule = rule; line = line })
IfBroken FileFault.Memory P = Unit {0}

-- returns the report of the parser state at the end of the text
abbrev pub closed_by : Result ReportDraft ReportBroken → Result formats.Report ReportBroken
closed_by read = read >>= λ draft. if_at_end draft.stage draft

-- the report that a value represents
abbrev pub seen_report : Report → formats.Report
seen_report r = record { horizon = r.horizon; flow = seen_flow r.flow; stop = r.stopped; last = r.last }

-- the result is this report, unless an allocation failed
abbrev pub ReturnsReport : formats.Report → Result Report (FileFault ReportRule) → Type 0
ReturnsReport report (Ok read) = seen_report read ≡ report
ReturnsReport report (Err (FileFault.Broken rule line)) = ⊥
ReturnsReport report (Err FileFault.Memory) = Unit {0}
