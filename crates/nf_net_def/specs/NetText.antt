-- The canonical text of a network.
use Rattle.std.specs.Prelude.{ℕ, List, [], ◌∷◌, ◌++◌, flat_map, map, codes}
use Rattle.nf_model.specs.Network.{Piece}
use Rattle.nf_frac_words.specs.Digits.{digits_of}
use Rattle.nf_frac_words.specs.Printed.{printed}
use Rattle.nf_text_def.specs.Words.{line_of_words}
use Rattle.nf_net_def.specs.Names.{name_at}
use Rattle.nf_net_def.specs.Numbers.{capacity_word}
use Rattle.nf_net_def.specs.Named.{NamedLink, Named, active_links}

abbrev pub link_words : NamedLink → List (List ℕ)
link_words l = codes "link" ∷ l.name ∷ l.tail ∷ l.head ∷ printed l.transit ∷ capacity_word l.capacity ∷ []

abbrev pub inflow_words : Piece → List (List ℕ)
inflow_words piece = codes "inflow" ∷ printed piece.start ∷ printed piece.rate ∷ []

-- lists the words of the lines: the head, source and sink, the links in order, the idle links in order, the pieces in order, and the end.
abbrev pub canonical_lines : Named → List (List (List ℕ))
canonical_lines n = (codes "nfot" ∷ digits_of n.version ∷ [])
    ∷ (codes "source" ∷ name_at n.node_names n.net.source ∷ [])
    ∷ (codes "sink" ∷ name_at n.node_names n.net.sink ∷ [])
    ∷ map link_words (active_links n) ++ map link_words n.idle_links ++ map inflow_words n.net.pieces ++ (codes "end" ∷ []) ∷ []

abbrev pub canonical : Named → List ℕ
canonical n = flat_map line_of_words (canonical_lines n)
