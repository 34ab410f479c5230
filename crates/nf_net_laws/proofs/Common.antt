-- The names that most proofs of this crate cite, passed on from one place. Declares nothing.
pub use Rattle.nf_frac_def.specs.Checked.{◌>>=◌}
pub use Rattle.nf_frac_def.specs.Passing.{is_wide, passes_Q}
pub use Rattle.nf_frac_def.specs.declared.Op.TheVariants.{Sum}
pub use Rattle.nf_frac_words.specs.Digits.{are_digits, digits_of, value_of}
pub use Rattle.nf_frac_words.specs.Numbers.{as_ratio, before, bytes_after, decimal_of, denominator, is_decimal, parts_or_fault, point, signed_by, slash}
pub use Rattle.nf_frac_words.specs.Numbers.{unsigned}
pub use Rattle.nf_frac_words.specs.Printed.{printed, signed_digits_of}
pub use Rattle.nf_frac_words.specs.declared.NumberFault.{NumberFault}
pub use Rattle.nf_model.specs.Network.{ArePieces, IsLink, IsNetwork, IsPiece, Link, Network, Piece, hop_of, hops}
pub use Rattle.nf_model.specs.Walk.{Hop, IsHop, IsLeastTransit, IsWalk, transit_of, transit_sum}
pub use Rattle.nf_model_laws.proofs.Networks.{transit_of-hop}
pub use Rattle.nf_net_def.specs.Named.{Named, NamedLink, active_links, all_hops, all_links, all_nodes, ends, hops_among, link_by_name, links_by_name}
pub use Rattle.nf_net_def.specs.Named.{names_of, numbered}
pub use Rattle.nf_net_def.specs.Names.{AreNames, Name, has_name, is_name, is_name_byte, name_at, place_of, with_name, with_names, without}
pub use Rattle.nf_net_def.specs.NetClosing.{AreActive, BreaksRule, HasPassingSum, HasZeroCycle, IsFirst, IsReached, LeavesUnreached, StandsFor}
pub use Rattle.nf_net_def.specs.NetClosing.{closing_rules, draft_hops, marked, network_of, sink_name, source_name, source_place}
pub use Rattle.nf_net_def.specs.NetFile.{Reads, ReadsAs, as_rule, by_bytes, by_lines}
pub use Rattle.nf_net_def.specs.NetLines.{Broken, Draft, End, Entry, InflowLine, LinkLine, Sink, Source, add_line, add_lines, after, broken_rule}
pub use Rattle.nf_net_def.specs.NetLines.{draft_after, draft_from, empty_draft, end_line, entry_of, first_rule, in_line, inflow_entry, inflow_line}
pub use Rattle.nf_net_def.specs.NetLines.{is_negative, is_no_capacity, is_not_after, link_entry, link_line, node_line, too_many_nodes, unless, version_of}
pub use Rattle.nf_net_def.specs.NetText.{canonical, canonical_lines, inflow_words, link_words}
pub use Rattle.nf_net_def.specs.Numbers.{capacity_in, capacity_word, greatest, number_in}
pub use Rattle.nf_net_def.specs.WellNamed.{IsCapacity, IsFraction, IsFractionPiece, IsNamed, IsNamedLink, IsNumbered, IsWithinLimits, SumsFit}
pub use Rattle.nf_net_def.specs.declared.NetRule.{NetRule}
pub use Rattle.nf_net_def.specs.declared.NetRule.TheVariants.{N1, N10, N11, N12, N13, N14, N15, N16, N17, N18, N19, N2, N20, N21, N22, N3, N4, N5, N6, N7}
pub use Rattle.nf_net_def.specs.declared.NetRule.TheVariants.{N8, N9}
pub use Rattle.nf_net_laws.specs.LineLaws.{AreShort, AreWords, IsWord, is_word_byte, numbers_from, plain_from, whole_line}
pub use Rattle.nf_rational.specs.Operations.{0ℚ, ◌+ℚ◌}
pub use Rattle.nf_rational.specs.Order.{le_ℚ, ◌<ℚ◌, ◌≤ℚ◌}
pub use Rattle.nf_rational.specs.Rational.{abs_quot, ℚ}
pub use Rattle.nf_rational_laws.proofs.Entries.{all_push, last-append, slice_get-image}
pub use Rattle.nf_rational_laws.proofs.Facts.{same_sums, zero_not_above}
pub use Rattle.nf_rational_laws.proofs.Linear.{eq, le, linear_eq, linear_le}
pub use Rattle.nf_rational_laws.proofs.Order.{lt_or_le_ℚ, nn_plus, ≤ℚ_antisymm, ≤ℚ_of_lt, ≤ℚ_of_same}
pub use Rattle.nf_rational_laws.proofs.Polynomial.{reading_of}
pub use Rattle.nf_rational_laws.proofs.Results.{same_Ok, true_or_false}
pub use Rattle.nf_rational_laws.proofs.Tests.{le_of_test, lt_of_test, test_of_le, test_of_lt}
pub use Rattle.nf_text_def.specs.Faults.{LineFault, LongLine, NotAscii, first_fault, first_fault_of, is_allowed, line_fault, longest_line}
pub use Rattle.nf_text_def.specs.Lines.{TextLine, ended_line, lines, lines_from, lines_of_parts}
pub use Rattle.nf_text_def.specs.Words.{ReadLine, content_lines, is_blank, line_of_words, parts_with_bytes, read_line, read_lines, without_comment, words}
pub use Rattle.std.proofs.lemmas.Bool.{and_parts, and_right, eq-eqb, eqb-false, eqb-true, le-leb, le-ltb, leb-false, leb-true, lt-leb, ltb-false, ltb-true}
pub use Rattle.std.proofs.lemmas.Bool.{ne_eqb, not-false, not-true, or_cases, or_from, or_left, or_parts, or_right}
pub use Rattle.std.proofs.lemmas.List.Elements.{All-from_recursion, filter-append}
pub use Rattle.std.proofs.lemmas.List.Splits.{join_with_byte-slice_split, length-slice_split, slice_split_at, slice_split_none}
pub use Rattle.std.proofs.lemmas.Map.Keys.{any_passes_from_place}
pub use Rattle.std.proofs.lemmas.Option.{same_Some}
pub use Rattle.std.specs.Bool.{Decides, MatchBool, one_answer}
pub use Rattle.std.specs.List.{AllByRecursion, AllZip, IsDistinct, flat_map, join_with_byte, last_or, list_all, list_any, position_or_len, range_with_len}
pub use Rattle.std.specs.List.{slice_split}
pub use Rattle.std.specs.Result.{result_ok}
