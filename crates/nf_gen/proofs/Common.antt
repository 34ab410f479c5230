-- The names that most proofs of this crate cite, passed on from one place. Declares nothing.
pub use Rattle.nf_frac_def.specs.Passing.{bound_of, passes_Q}
pub use Rattle.nf_frac_def.specs.declared.Op.TheVariants.{Sum}
pub use Rattle.nf_frac_words.specs.Digits.{are_digits, digits_of}
pub use Rattle.nf_frac_words.specs.Printed.{printed}
pub use Rattle.nf_gen.specs.Ladder.{Ends, drawn, drawn_link, drawn_links, drawn_pieces, ladder, ladder_ends, ladder_links, ladder_nodes, link_from}
pub use Rattle.nf_gen.specs.Ladder.{links_along, links_down, links_in, links_out, lower, next_value, rails_on, rung, rung_at, rung_nodes, upper}
pub use Rattle.nf_gen.specs.Writing.{WritesLinks, after_links, after_two, link_after, links_after, pieces_after}
pub use Rattle.nf_model.specs.Network.{Piece, hop_of}
pub use Rattle.nf_net_def.specs.Named.{Named, NamedLink, active_links, ends, links_by_name, names_of, numbered}
pub use Rattle.nf_net_def.specs.Names.{Name, has_name, is_name, is_name_byte, name_at, place_of, with_names}
pub use Rattle.nf_net_def.specs.NetClosing.{AreActive, BreaksRule, HasPassingSum, HasZeroCycle, IsReached, LeavesUnreached, closing_rules, draft_hops}
pub use Rattle.nf_net_def.specs.NetClosing.{marked, network_of, source_place}
pub use Rattle.nf_net_def.specs.NetFile.{Reads}
pub use Rattle.nf_net_def.specs.NetLines.{Broken, Draft}
pub use Rattle.nf_net_def.specs.NetText.{canonical, canonical_lines, inflow_words, link_words}
pub use Rattle.nf_net_def.specs.WellNamed.{IsFraction, IsFractionPiece, IsNamed, IsNamedLink}
pub use Rattle.nf_net_laws.proofs.AcceptedNamed.{every_append, is_named}
pub use Rattle.nf_net_laws.proofs.LinkFacts.{map-append}
pub use Rattle.nf_net_laws.proofs.MarkedFacts.{Entry}
pub use Rattle.nf_net_laws.proofs.NameFacts.{all_at, bytes_eq-self, has_name-append, has_none, name_at-place, place_at, place_below, same_names}
pub use Rattle.nf_net_laws.proofs.NameFacts.{with_name_new, with_name_there, with_names-append}
pub use Rattle.nf_net_laws.proofs.WalkFacts.{CameFrom, came_from, entry_all, slice_get-left, slice_get-right, walk_push}
pub use Rattle.nf_rational.specs.Operations.{0ℚ, whole, ◌+ℚ◌}
pub use Rattle.nf_rational.specs.Order.{◌<ℚ◌, ◌≤ℚ◌}
pub use Rattle.nf_rational.specs.Rational.{ℚ}
pub use Rattle.nf_rational_laws.proofs.Order.{<ℚ_irrefl, nn_whole, ps_whole}
pub use Rattle.nf_rational_laws.proofs.Results.{not_both, same_Ok}
pub use Rattle.nf_text_def.specs.Faults.{longest_text}
pub use Rattle.nf_text_def.specs.Words.{line_of_words}
pub use Rattle.std.proofs.lemmas.Bool.{and_from, and_parts, cases_eq, cases_lt, le-leb, le-ltb, or_from, or_left, or_right}
pub use Rattle.std.proofs.lemmas.Grind.{flat_map-append}
pub use Rattle.std.proofs.lemmas.List.{length-map}
pub use Rattle.std.specs.List.{AllByRecursion, AllZip, IsDistinct, join_with_byte, list_all, range_with_len}
