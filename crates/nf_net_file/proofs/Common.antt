-- The names that most proofs of this crate cite, passed on from one place. Declares nothing.
pub use Rattle.nf_graph.specs.Graph.{AreBelow}
pub use Rattle.nf_model.specs.Network.{Piece, first_start, hop_of, rate_from}
pub use Rattle.nf_model.specs.Walk.{Hop, IsHop, IsWalk, transit_of}
pub use Rattle.nf_net_def.specs.Limits.{longest_name, most_nodes}
pub use Rattle.nf_net_def.specs.Named.{NamedLink, ends, hops_among, names_of, numbered}
pub use Rattle.nf_net_def.specs.Names.{Name, has_name, is_name, is_name_byte, place_of, with_name, with_names, without}
pub use Rattle.nf_net_def.specs.NetClosing.{HasPassingSum, HasZeroCycle, IsReached, LeavesUnreached, draft_hops, marked, sink_name, source_name}
pub use Rattle.nf_net_def.specs.NetClosing.{source_place}
pub use Rattle.nf_net_def.specs.NetLines.{Broken, Draft, End, Entry, Sink, Source, add_line, add_lines, draft_after, draft_from, empty_draft, end_line}
pub use Rattle.nf_net_def.specs.NetLines.{entry_of, in_line, inflow_entry, inflow_line, is_not_after, link_entry, link_line, node_line, version_of}
pub use Rattle.nf_net_def.specs.Numbers.{capacity_in, greatest, number_in}
pub use Rattle.nf_net_def.specs.declared.NetRule.{NetRule}
pub use Rattle.nf_net_def.specs.declared.NetRule.TheVariants.{N17, N18, N19, N20, N21, N22, N3, N5, N6, N7, N8}
pub use Rattle.nf_net_file.specs.Closing.{AreFlags, BreaksFirstAtEnd, BreaksNone, HasEnds, HasFraction, flag_at, some_unreached}
pub use Rattle.nf_net_file.specs.Contents.{IfBroken, IsRead}
pub use Rattle.nf_net_file.specs.Drafts.{one_unless, seen_draft}
pub use Rattle.nf_net_laws.proofs.NameFacts.{has_name-append, place_below, same_names, with_name_new, with_name_there}
pub use Rattle.nf_rational.specs.Operations.{0ℚ}
pub use Rattle.nf_rational.specs.Order.{le_ℚ, lt_ℚ}
pub use Rattle.nf_rational.specs.Rational.{ℚ}
pub use Rattle.nf_text.specs.Within.{word_at}
pub use Rattle.std.proofs.lemmas.Bool.{and_parts, cond-false, cond-true, not-false}
pub use Rattle.std.proofs.lemmas.Bool.Decides.{nat_tests}
pub use Rattle.std.proofs.lemmas.List.{append-nil, at_drop_all, at_drop_more, length-map, take_at, take_rest}
pub use Rattle.std.proofs.lemmas.Result.{err_from_is_err_and}
pub use Rattle.std.specs.List.{AllByRecursion, last_or, list_all, list_any}
pub use Rattle.std.specs.Str.{IsAscii, IsUtf8, bytes_eq}
