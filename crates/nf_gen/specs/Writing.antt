-- Writing a ladder line by line.
use Rattle.std.specs.Prelude.{◌≡◌, ℕ, ◌+◌, ◌%◌, List, [], ◌∷◌, ◌++◌, map, flat_map, Some, pos}
use Rattle.nf_rational.specs.Operations.{whole}
use Rattle.nf_model.specs.Network.{Piece}
use Rattle.nf_text_def.specs.Words.{line_of_words}
use Rattle.nf_net_def.specs.Named.{NamedLink}
use Rattle.nf_net_def.specs.NetText.{link_words}
use Rattle.nf_gen.specs.Ladder.{next_value, Ends}

-- the value two draws after x
abbrev pub after_two : ℕ → ℕ
after_two x = next_value (next_value x)

-- the link l with the two values after x
abbrev pub link_after : ℕ → Ends → NamedLink
link_after x l = record {
  name = l.name;
  tail = l.tail;
  head = l.head;
  transit = whole (pos (1 + next_value x % 5));
  capacity = Some (whole (pos (1 + after_two x % 4)));
}

-- the links with the values after x, two for each link; `after_links` is the last of these values
abbrev pub links_after : ℕ → List Ends → List NamedLink
links_after x [] = []
links_after x (l ∷ links) = link_after x l ∷ links_after (after_two x) links

abbrev pub after_links : ℕ → List Ends → ℕ
after_links x [] = x
after_links x (l ∷ links) = after_links (after_two x) links

-- the pieces with the two values after x
abbrev pub pieces_after : ℕ → List Piece
pieces_after x =
    record { start = whole (pos 0); rate = whole (pos (1 + next_value x % 6)) }
    ∷ record { start = whole (pos 10); rate = whole (pos (1 + after_two x % 6)) }
    ∷ record { start = whole (pos 20); rate = whole (pos 0) } ∷ []

-- the new text is the old one, followed by the lines of these links, and the generator advances from x to y
pub record WritesLinks (links : List Ends) (old new : List ℕ) (x y : ℕ) : Type 0 where
  pub text : new ≡ old ++ flat_map line_of_words (map link_words (links_after x links))
  pub value : y ≡ after_links x links
