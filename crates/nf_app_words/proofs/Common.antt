-- The names that most proofs of this crate cite, passed on from one place. Declares nothing.
pub use Rattle.clap.proofs.WalkLemmas.{first_value-rows, raw_values-rows}
pub use Rattle.clap.specs.Faults.{action_fault, bundle_step_fault, check_fault, count_fault, defaults_fault, fault_of, flag_word_fault, is_simple_and_free}
pub use Rattle.clap.specs.Faults.{level_fault, long_fault, option_fault, other_fault, positional_fault, react_fault, repeat_fault, set_fault, settle_fault}
pub use Rattle.clap.specs.Faults.{short_fault, step_fault, stray_fault, turn_fault, use_fault, values_fault, word_fault}
pub use Rattle.clap.specs.Lexer.{long_of, short_of, usize_max}
pub use Rattle.clap.specs.Matches.{found_of, matched_of, raw_values}
pub use Rattle.clap.specs.Simple.{App, HasMatchesOf, Shape, app_of, app_of_fields, argument_words, built, is_simple, matches_of, on_top, with_rule}
pub use Rattle.clap.specs.Takes.{action_passes, bundle_step_passes, count_passes, default_passes, flag_word_passes, is_given, level_passes, long_passes}
pub use Rattle.clap.specs.Takes.{option_passes, other_passes, positional_passes, react_passes, set_passes, settle_passes, short_passes, step_passes, takes}
pub use Rattle.clap.specs.Takes.{turn_passes, use_passes, values_pass, word_passes}
pub use Rattle.clap.specs.Values.{kind_of, refused_kind}
pub use Rattle.clap.specs.Walk.{Held, Names, Row, Rule, Step, Text, Waiting, Walk, action_of, arg_by_id, arg_by_index, arg_by_long, arg_by_short}
pub use Rattle.clap.specs.Walk.{attached_value, finished, has_row, is_pending, most_values, next, nothing_held, reacted, rows_of, rule_of, settled}
pub use Rattle.clap.specs.Walk.{subcommand, subcommand_met, takes_several, takes_values, trailing, value, values_or_missing, walk, walk_from, walked}
pub use Rattle.clap.specs.Walk.{word_met}
pub use Rattle.clap.specs.declared.parser.matches.ArgMatches.{ArgMatches}
pub use Rattle.nf_app_words.specs.CommandLine.{command_rule, file_in, files_rule, flag_rule, matches_on, nfot, option_rule, options, with_options, word_in}
pub use Rattle.nf_app_words.specs.Commands.{are_met, commands, first_task, need_of}
pub use Rattle.nf_app_words.specs.MatchViews.{app_in, line_of, rows_in, text_in, wanted_of}
pub use Rattle.nf_app_words.specs.Numbers.{count_between, is_between, is_whole, most_augments, most_number, most_patterns, most_phases, most_rungs}
pub use Rattle.nf_app_words.specs.Numbers.{not_negative_in, not_negative_of, to_not_negative, usual_or_count_in}
pub use Rattle.nf_app_words.specs.Requests.{CanBeAsked, IsCountWithin, Request, Show, asked, check_request, forever_request, gen_request, load_request}
pub use Rattle.nf_app_words.specs.Requests.{quick_request, request_in, resume_request, routes_request, settle_request, solve_request}
pub use Rattle.nf_app_words.specs.declared.commands.Task.{Task}
pub use Rattle.nf_edge.specs.Names.{texts}
pub use Rattle.std.proofs.lemmas.Bool.{and_from, and_left, and_parts, and_right, cases_lt, cond-false, cond-true, eqb-false, eqb-true, false_from_ne_true}
pub use Rattle.std.proofs.lemmas.Bool.{le-leb, leb-true, lt-leb, ltb-false, not-true, or_right}
pub use Rattle.std.proofs.lemmas.List.{at_drop_all, at_drop_more, length-map}
pub use Rattle.std.proofs.lemmas.Option.{slice_get-map, slice_get_past, slice_get_read}
pub use Rattle.std.proofs.lemmas.Result.{IfOk-weaker}
pub use Rattle.std.specs.Borrow.{Bor}
pub use Rattle.std.specs.Option.{option_map_or}
pub use Rattle.std.specs.Str.{bytes_eq, chars}
