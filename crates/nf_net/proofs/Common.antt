-- The names that most proofs of this crate cite, passed on from one place. Declares nothing.
pub use Rattle.nf_frac_def.specs.Passing.{Passing, passes_Q}
pub use Rattle.nf_frac_words.specs.Digits.{digits_of}
pub use Rattle.nf_graph.specs.Distances.{AreDistances, NoNegativeTransit}
pub use Rattle.nf_model.specs.Entries.{Has, number_at}
pub use Rattle.nf_model.specs.Network.{ArePieces, IsLink, Link, Piece, hop_of, hops, supplied, time_in}
pub use Rattle.nf_net.specs.Building.{AreDivided, AreNodesOf, ArePartsOf, AreTablesOf, net_of}
pub use Rattle.nf_net.specs.Printing.{PushesLink, head_text}
pub use Rattle.nf_net.specs.Supply.{end_before, plus_piece, supplied_after}
pub use Rattle.nf_net_def.specs.Named.{Named, NamedLink, active_links, ends, link_by_name, links_by_name, names_of, numbered}
pub use Rattle.nf_net_def.specs.Names.{Name, has_name, is_name, name_at, place_of, with_names, without}
pub use Rattle.nf_net_def.specs.NetClosing.{IsReached, marked, network_of, sink_name, source_name}
pub use Rattle.nf_net_def.specs.NetFile.{Reads, ReadsAs, as_rule, by_bytes}
pub use Rattle.nf_net_def.specs.NetLines.{Broken, Draft, draft_from}
pub use Rattle.nf_net_def.specs.NetText.{canonical, inflow_words, link_words}
pub use Rattle.nf_net_def.specs.WellNamed.{IsNamed}
pub use Rattle.nf_net_file.proofs.ContentLines.{broken_more}
pub use Rattle.nf_net_file.proofs.FileWalks.{good_of, is_its_name, sink_given, source_given}
pub use Rattle.nf_net_file.proofs.Filling.{filled, filled_all}
pub use Rattle.nf_net_file.proofs.Marks.{kept_with, marked_past, marked_with}
pub use Rattle.nf_net_file.specs.Closing.{AreFlags, BreaksNone, HasEnds, flag_at, tail_flags}
pub use Rattle.nf_net_file.specs.Contents.{IfBroken, IsRead}
pub use Rattle.nf_net_file.specs.Drafts.{seen_draft}
pub use Rattle.nf_net_laws.proofs.NameFacts.{has_none, same_names, with_name_new}
pub use Rattle.nf_rational.specs.Operations.{0ℚ, ◌*ℚ◌, ◌+ℚ◌, ◌-ℚ◌}
pub use Rattle.nf_rational.specs.Order.{lt_ℚ, min_ℚ, ◌<ℚ◌, ◌≤ℚ◌}
pub use Rattle.nf_rational.specs.Rational.{ℚ}
pub use Rattle.nf_text.proofs.Pushed.{same_line}
pub use Rattle.nf_text_def.specs.Words.{ReadLine, content_lines, line_of_words, read_lines}
pub use Rattle.std.proofs.lemmas.List.{drop_all, length-map, map-append}
pub use Rattle.std.proofs.lemmas.Option.{slice_get-get_or, slice_get_within}
pub use Rattle.std.specs.List.{AllZip, flat_map, list_all, position, position_or_len}
pub use Rattle.std.specs.Str.{bytes_eq}
