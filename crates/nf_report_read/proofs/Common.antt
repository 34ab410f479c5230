-- The names that most proofs of this crate cite, passed on from one place. Declares nothing.
pub use Rattle.nf_curve.specs.declared.flow.Trace.{Trace}
pub use Rattle.nf_net_def.specs.Named.{Named}
pub use Rattle.nf_net_def.specs.WellNamed.{IsNamed}
pub use Rattle.nf_report_def.specs.ReportFile.{ReportBroken, as_report_rule, curves_of_kind, if_at_end, in_report_line, next_words, report_by_bytes}
pub use Rattle.nf_report_def.specs.ReportFile.{report_draft, report_in, report_lines_from}
pub use Rattle.nf_report_def.specs.ReportLines.{CurveKey, OfNever, ReadCurve, ReportDraft, curve_keys, empty_report, key_of, key_word, report_line}
pub use Rattle.nf_report_def.specs.declared.ReportRule.{ReportRule}
pub use Rattle.nf_report_lines.proofs.DraftSteps.{done_few, not_ended, pushed}
pub use Rattle.nf_report_lines.specs.Drafts.{IsWithinNetwork, seen_curve, seen_done, seen_draft, seen_stage}
pub use Rattle.nf_report_lines.specs.Keys.{key_at, key_of_number, seen_key, seen_kind}
pub use Rattle.nf_report_lines.specs.Lines.{words_behind}
pub use Rattle.nf_report_read.specs.Files.{IfBroken, ReturnsReport, closed_by, seen_report}
pub use Rattle.nf_report_read.specs.Sorted.{AreSorted}
pub use Rattle.nf_report_read.specs.declared.report.Report.{Report}
pub use Rattle.nf_text.specs.declared.fault.FileFault.{FileFault}
pub use Rattle.nf_text_def.specs.Faults.{LineFault, first_fault, first_fault_of}
pub use Rattle.nf_text_def.specs.Lines.{TextLine, lines}
pub use Rattle.nf_text_def.specs.Words.{ReadLine, read_line, read_lines}
pub use Rattle.std.proofs.lemmas.List.{length-map, map-append}
pub use Rattle.std.proofs.lemmas.Option.{MatchOption-at_some, slice_get_read, slice_get_within}
