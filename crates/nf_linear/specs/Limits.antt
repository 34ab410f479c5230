-- The limit of a table.
use Rattle.std.specs.Prelude.{ℕ}

-- the most unknowns of a table: 64 nodes and 200 links
abbrev pub most_unknowns : ℕ
most_unknowns = 264
