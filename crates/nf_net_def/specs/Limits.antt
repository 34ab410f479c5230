-- The limits of a network file. A line has at most `longest_line` bytes (in `nf_text_def`).
use Rattle.std.specs.Prelude.{ℕ}

-- the greatest number of characters of a name
abbrev pub longest_name : ℕ
longest_name = 24

-- a file has at most this number of nodes, including idle ones, which no walk from the source reaches
abbrev pub most_nodes : ℕ
most_nodes = 64

-- a file has at most this number of links, including idle ones, which leave idle nodes
abbrev pub most_links : ℕ
most_links = 200

-- the greatest number of inflow pieces
abbrev pub most_pieces : ℕ
most_pieces = 200
