-- The names that most proofs of this crate cite, passed on from one place. Declares nothing.
pub use Rattle.nf_text.specs.Reading.{MatchesFault, WordsAreIn, bytes_len, ends_with_cr, first_line, has_lf, lf_place, seen_line, spans_of, whole_len}
pub use Rattle.nf_text.specs.Spans.{ComparesPrefix, Rise, between, space_before, text_of}
pub use Rattle.nf_text.specs.declared.Span.{Span}
pub use Rattle.nf_text.specs.declared.TextFault.{TextFault}
pub use Rattle.nf_text_def.specs.Faults.{LineFault, fault_of, first_fault, first_fault_of, is_allowed, line_fault}
pub use Rattle.nf_text_def.specs.Lines.{TextLine, ended_line, lines_from, lines_of_parts}
pub use Rattle.nf_text_def.specs.Words.{ReadLine, content_lines, is_blank, line_of_words, parts_with_bytes, read_line, read_lines, words}
pub use Rattle.std.proofs.lemmas.Bool.{cond_above, cond_below, eq-eqb, eqb-true, le-ltb, lt-ltb, ltb-true, ne_eqb}
pub use Rattle.std.proofs.lemmas.List.{drop-drop, drop-take, drop_all, drop_more, get_or-take, length-map, map-append, take_more, take_rest}
pub use Rattle.std.proofs.lemmas.List.Elements.{All-from_recursion}
pub use Rattle.std.proofs.lemmas.List.Folds.{list_all_more}
pub use Rattle.std.proofs.lemmas.List.Splits.{length-slice_split, slice_split_first, slice_split_none}
pub use Rattle.std.proofs.lemmas.List.Sums.{fails_before_first, passes_at_first, position_or_len_is, prefix_len-le-length}
pub use Rattle.std.proofs.lemmas.Result.{err_from_is_err_and}
pub use Rattle.std.specs.List.{after_first, before_first, flat_map, join_with_byte, list_all, position_or_len, prefix_len, slice_split}
pub use Rattle.std.specs.Option.{option_or}
pub use Rattle.std.specs.Str.{bytes_eq}
