-- The names that most proofs of this crate cite, passed on from one place. Declares nothing.
pub use Rattle.nf_app_answers.specs.ErrorLines.{augments_line, broken_line, earlier_line, flows_line, memory_line, network_line, no_equilibrium_line}
pub use Rattle.nf_app_answers.specs.ErrorLines.{no_thin_flow_line, output_line, passed_line, said, shelf_failed_line, shelf_too_long_line, stopped_line}
pub use Rattle.nf_app_answers.specs.ErrorLines.{unbounded_line}
pub use Rattle.nf_app_answers.specs.GenText.{gen_text, ladder_lines, last_arrival, run_end_lines, run_lines, size_lines}
pub use Rattle.nf_app_answers.specs.QuickText.{arrival_text, augment_line, cut_line, flow_text, step_word, walk_line}
pub use Rattle.nf_complete_def.specs.SettleText.{flow_line, settled_lines}
pub use Rattle.nf_edge.specs.Writing.{SinkState, Wrote, state_of}
pub use Rattle.nf_edge.specs.declared.SinkFault.{SinkFault}
pub use Rattle.nf_frac_words.specs.Digits.{digits_of}
pub use Rattle.nf_frac_words.specs.Printed.{printed}
pub use Rattle.nf_load.specs.Loadings.{loaded_of}
pub use Rattle.nf_model.specs.Quickest.{Fed}
pub use Rattle.nf_net_def.specs.Causes.{cause_words, passed_words}
pub use Rattle.nf_net_def.specs.Named.{Named}
pub use Rattle.nf_net_def.specs.Names.{Name, name_at}
pub use Rattle.nf_net_def.specs.Report.{Report, for_each, point_lines, state_lines}
pub use Rattle.nf_quick_def.specs.Quick.{Augment, Quick}
pub use Rattle.nf_rational.specs.Rational.{ℚ}
pub use Rattle.nf_report_def.specs.Texts.{loaded_lines}
pub use Rattle.nf_report_pages.proofs.Gathering.{gathered_failed, gathered_next, gathered_nil, gathered_refused, gathered_then_failed, gathered_written}
pub use Rattle.nf_report_pages.proofs.Gathering.{same_gathered}
pub use Rattle.nf_report_pages.proofs.Parts.{all_parts, each_all, each_left, each_next, line_joined, next_part, parts_left, points_there}
pub use Rattle.nf_report_pages.proofs.Written.{same_lines, wrote_both, wrote_failed, wrote_front, wrote_next, wrote_then_failed}
pub use Rattle.nf_report_pages.specs.Written.{Line, WroteLines, after_words}
pub use Rattle.nf_routes.specs.Carried.{with_kept_entries}
pub use Rattle.nf_routes_def.specs.Meanings.{arrival_at, link_loaded, travel_at}
pub use Rattle.nf_routes_def.specs.RoutesList.{Routed}
pub use Rattle.nf_routes_def.specs.RoutesText.{link_curve_lines, route_lines, routed_lines}
pub use Rattle.nf_text_def.specs.Words.{line_of_words}
pub use Rattle.std.proofs.lemmas.List.{drop_all, length-map}
pub use Rattle.std.proofs.lemmas.List.FromFn.{length-enumerate_from}
pub use Rattle.std.proofs.lemmas.Option.{slice_get-get_or, slice_get_read}
pub use Rattle.std.proofs.lemmas.Result.{IfOk-from_err}
pub use Rattle.std.specs.List.{enumerate_from, flat_map, range_with_len}
pub use Rattle.std.specs.Option.{option_copied}
