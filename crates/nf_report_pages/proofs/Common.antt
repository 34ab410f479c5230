-- The names that most proofs of this crate cite, passed on from one place. Declares nothing.
pub use Rattle.nf_curve.specs.Flows.{seen_flow, seen_trace}
pub use Rattle.nf_curve.specs.Points.{Grown}
pub use Rattle.nf_curve.specs.declared.flow.Trace.{Trace}
pub use Rattle.nf_edge.proofs.Pieces.{Wrote-append, Wrote-longer}
pub use Rattle.nf_edge.specs.Writing.{SinkState, Wrote, state_of}
pub use Rattle.nf_edge.specs.declared.SinkFault.{SinkFault}
pub use Rattle.nf_frac_words.specs.Digits.{digits_of}
pub use Rattle.nf_net_def.specs.Causes.{cause_words, passed_words}
pub use Rattle.nf_net_def.specs.Names.{Name, name_at}
pub use Rattle.nf_net_def.specs.Report.{Report, for_each, label_lines, link_lines, point_lines, state_lines, trace_at, trace_lines}
pub use Rattle.nf_net_def.specs.WellNamed.{IsFraction}
pub use Rattle.nf_net_def.specs.declared.Cause.{Cause}
pub use Rattle.nf_rational.specs.Rational.{ℚ}
pub use Rattle.nf_report_laws.specs.Readable.{AreFractionPoints, IsFractionPoint, IsFractionTrace, IsReadableCause}
pub use Rattle.nf_report_pages.specs.Pages.{Gathered, GatheredLines, Kept}
pub use Rattle.nf_report_pages.specs.Written.{Line, WroteLines, after_words, never_lines, written_point, written_trace}
pub use Rattle.nf_text_def.specs.Words.{line_of_words}
pub use Rattle.std.proofs.lemmas.Grind.{flat_map-append}
pub use Rattle.std.proofs.lemmas.List.{length-map, take_all}
pub use Rattle.std.specs.List.{AllByRecursion, join_with_byte, range_with_len}
