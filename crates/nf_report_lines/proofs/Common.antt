-- The names that most proofs of this crate cite, passed on from one place. Declares nothing.
pub use Rattle.nf_curve.specs.declared.flow.Trace.{Trace}
pub use Rattle.nf_frac_def.specs.Checked.{◌>>=◌}
pub use Rattle.nf_frac_words.specs.Digits.{are_digits, digits_of, value_of}
pub use Rattle.nf_frac_words.specs.Printed.{printed_parts, signed_digits_of}
pub use Rattle.nf_model.specs.declared.State.{State}
pub use Rattle.nf_net.proofs.Limits.{as_many_names, few_links}
pub use Rattle.nf_net_def.specs.Named.{Named}
pub use Rattle.nf_net_def.specs.Names.{Name, name_at}
pub use Rattle.nf_rational.specs.Operations.{0ℚ}
pub use Rattle.nf_rational.specs.Order.{lt_ℚ, ◌<ℚ◌}
pub use Rattle.nf_rational.specs.Rational.{ℚ}
pub use Rattle.nf_rational.specs.Signs.{is_same}
pub use Rattle.nf_report_def.specs.ReportCauses.{CauseKind, IsDone, IsNoPattern, IsPassed, IsPatterns, IsPhases, cause_in, cause_kind, cause_of_kind}
pub use Rattle.nf_report_def.specs.ReportCauses.{if_printed, or_rule, passed_cause, printed_number}
pub use Rattle.nf_report_def.specs.ReportLines.{AtCause, AtEnd, AtReached, CurveKey, InBody, Kind, LineKind, OfNever, Opened, ReadCurve, ReportDraft}
pub use Rattle.nf_report_def.specs.ReportLines.{after_keyword, are_alike, begins_with, begun, body_line, capacity_at, cause_line, comes_after, curve_keys}
pub use Rattle.nf_report_def.specs.ReportLines.{has_all, horizon_line, is_key, key_of, key_word, line_kind, line_of_kind, nothing_more, number_alone}
pub use Rattle.nf_report_def.specs.ReportLines.{opened, point_line, rate_word, reached_line, staged_line, state_in, state_line, state_of_link, trace_line}
pub use Rattle.nf_report_def.specs.ReportLines.{with_current, with_point, with_rate}
pub use Rattle.nf_report_def.specs.declared.ReportRule.{ReportRule}
pub use Rattle.nf_report_def.specs.declared.ReportRule.TheVariants.{P10, P11, P12, P13, P14, P5, P6, P7, P8, P9}
pub use Rattle.nf_report_lines.specs.Drafts.{IsWithinNetwork, LacksIdleOnly, begun_count, seen_current, seen_curve, seen_done, seen_draft, seen_stage}
pub use Rattle.nf_report_lines.specs.Drafts.{with_open}
pub use Rattle.nf_report_lines.specs.Entries.{FitsDraft, IsNeverNext, begun_by, closed, drafted, opened_by}
pub use Rattle.nf_report_lines.specs.Keys.{is_some_key, key_at, key_of_number, kind_of_three, link_keys, seen_kind}
pub use Rattle.nf_report_lines.specs.Lines.{seen_line_kind, state_read, words_behind}
pub use Rattle.nf_report_lines.specs.declared.draft.Stage.{Stage}
pub use Rattle.nf_report_lines.specs.declared.entry.Entry.{Entry}
pub use Rattle.nf_text.specs.Within.{word_at}
pub use Rattle.std.proofs.Math.Facts.{to_z-of_z}
pub use Rattle.std.proofs.lemmas.Bool.{and_from, cond-false, false≢true, le-ltb, ne_eqb, or_left, or_right, true≢false}
pub use Rattle.std.proofs.lemmas.List.{drop_all, drop_more, length-map, length-replicate, take-append-drop, take_all}
pub use Rattle.std.proofs.lemmas.Result.{IfOk-from_err, err_from_is_err_and}
pub use Rattle.std.specs.Bool.{beq}
pub use Rattle.std.specs.Int.{w128}
pub use Rattle.std.specs.List.{last_or}
pub use Rattle.std.specs.Option.{option_copied}
