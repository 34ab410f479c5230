-- The names that most proofs of this crate cite, passed on from one place. Declares nothing.
pub use Rattle.nf_frac_def.specs.Checked.{◌>>=◌}
pub use Rattle.nf_frac_def.specs.declared.Op.{Op}
pub use Rattle.nf_frac_def.specs.declared.Op.TheVariants.{Difference, Product, Quotient, Sum}
pub use Rattle.nf_frac_def.specs.declared.Part.{Part}
pub use Rattle.nf_frac_def.specs.declared.Part.TheVariants.{Advance, Check, Curve, Extend, Load, Quick, Slack, Table, Verdict}
pub use Rattle.nf_frac_words.specs.Digits.{count_of, digits_of}
pub use Rattle.nf_frac_words.specs.Printed.{printed}
pub use Rattle.nf_model.specs.Curve.{IsCurve, Point, TimesRise}
pub use Rattle.nf_model.specs.Equilibrium.{Flow, Trace, points_at, points_of}
pub use Rattle.nf_model.specs.Network.{ArePieces, IsLink, IsPiece, Link, Piece}
pub use Rattle.nf_model.specs.Pattern.{HasState, Pattern}
pub use Rattle.nf_model.specs.declared.State.{State}
pub use Rattle.nf_model.specs.declared.State.TheVariants.{Full, Tight, Zero}
pub use Rattle.nf_net_def.specs.Causes.{cause_words, count_word, op_word, part_word}
pub use Rattle.nf_net_def.specs.Named.{Named, ends, names_of}
pub use Rattle.nf_net_def.specs.Names.{Name, has_name, is_name, name_at, place_of, with_names, without}
pub use Rattle.nf_net_def.specs.Report.{HaveRates, IsWellFormed, Report, point_lines, report_lines, report_text, state_word, trace_at, trace_lines}
pub use Rattle.nf_net_def.specs.Report.{written_state}
pub use Rattle.nf_net_def.specs.WellNamed.{IsFraction, IsNamed}
pub use Rattle.nf_net_def.specs.declared.Cause.{Cause}
pub use Rattle.nf_net_def.specs.declared.Cause.TheVariants.{NoPattern, Passed, Patterns, Phases}
pub use Rattle.nf_net_laws.proofs.AcceptedNamed.{every_append}
pub use Rattle.nf_net_laws.proofs.LinkFacts.{all_left, distinct_left}
pub use Rattle.nf_net_laws.proofs.NameFacts.{bytes_eq-self, has_at, name_at-place, place_at, place_below, same_names}
pub use Rattle.nf_net_laws.specs.LineLaws.{AreShort, AreWords, plain_from, whole_line}
pub use Rattle.nf_rational.specs.Operations.{0ℚ}
pub use Rattle.nf_rational.specs.Order.{le_ℚ, lt_ℚ, ◌<ℚ◌, ◌≤ℚ◌}
pub use Rattle.nf_rational.specs.Rational.{ℚ}
pub use Rattle.nf_rational.specs.Signs.{is_same}
pub use Rattle.nf_rational_laws.proofs.Entries.{entry, last-append}
pub use Rattle.nf_rational_laws.proofs.Results.{not_both, same_Ok}
pub use Rattle.nf_rational_laws.proofs.SignTests.{same_of_test, test_of_same}
pub use Rattle.nf_rational_laws.proofs.Tests.{less_of_test, lt_of_test, not_less_of_test, test_of_le, test_of_less, test_of_not_less}
pub use Rattle.nf_report_def.specs.ReportCauses.{CauseKind, IsDone, IsNoPattern, IsPassed, IsPatterns, IsPhases, cause_in, cause_kind, cause_of_kind}
pub use Rattle.nf_report_def.specs.ReportCauses.{done_cause, first_named, if_printed, nopattern_cause, op_of_word, or_rule, part_of, passed_cause}
pub use Rattle.nf_report_def.specs.ReportCauses.{patterns_cause, phases_cause, place_in, printed_number, some_place}
pub use Rattle.nf_report_def.specs.ReportFile.{ReportBroken, as_report_rule, curves_of_kind, if_at_end, in_report_line, next_words, points_read}
pub use Rattle.nf_report_def.specs.ReportFile.{report_by_bytes, report_draft, report_in, report_lines_from, report_of_draft, traces_read}
pub use Rattle.nf_report_def.specs.ReportLines.{AtCause, AtEnd, AtHorizon, AtReached, AtVersion, CurveKey, InBody, Kind, LineKind, OfCurve, OfEnd, OfInflow}
pub use Rattle.nf_report_def.specs.ReportLines.{OfLabel, OfNever, OfOutflow, OfQueue, OfState, Opened, ReadCurve, ReportDraft, Stage, after_keyword}
pub use Rattle.nf_report_def.specs.ReportLines.{are_alike, begins_with, begun, body_line, capacity_at, capacity_of, cause_line, comes_after, curve_keys}
pub use Rattle.nf_report_def.specs.ReportLines.{empty_report, end_line, has_all, horizon_line, is_key, is_version, key_of, key_word, line_kind}
pub use Rattle.nf_report_def.specs.ReportLines.{line_of_kind, never_kinds, never_line, nothing_more, number_alone, opened, point_line, point_numbers}
pub use Rattle.nf_report_def.specs.ReportLines.{rate_word, reached_line, report_line, some_rate, staged_line, state_in, state_of_link, trace_line}
pub use Rattle.nf_report_def.specs.ReportLines.{with_current, with_point, with_rate}
pub use Rattle.nf_report_def.specs.declared.ReportRule.{ReportRule}
pub use Rattle.nf_report_def.specs.declared.ReportRule.TheVariants.{P10, P11, P12, P13, P14, P3, P4, P5, P6, P7, P8, P9}
pub use Rattle.nf_report_laws.specs.Readable.{AreFractionPoints, IsCount, IsCountOrNone, IsFractionOrNone, IsFractionPoint, IsFractionTrace, IsReadable}
pub use Rattle.nf_report_laws.specs.Readable.{IsReadableCause}
pub use Rattle.nf_side_def.specs.Lines.{first_rule, is_head, piece_rule, unless_rule}
pub use Rattle.nf_text_def.specs.Faults.{LineFault, first_fault}
pub use Rattle.nf_text_def.specs.Lines.{TextLine, lines}
pub use Rattle.nf_text_def.specs.Words.{ReadLine, content_lines, is_plain, line_of_words, read_line, read_lines, words}
pub use Rattle.std.proofs.lemmas.Bool.{and_from, and_parts, eqb-true, le-ltb, ltb-false, not-false, or_parts}
pub use Rattle.std.proofs.lemmas.Grind.{flat_map-append}
pub use Rattle.std.proofs.lemmas.List.{length-set, map-append}
pub use Rattle.std.proofs.lemmas.Option.{none-some, same_Some}
pub use Rattle.std.specs.List.{AllByRecursion, IsDistinct, join_with_byte, last_or, list_all, range_with_len}
