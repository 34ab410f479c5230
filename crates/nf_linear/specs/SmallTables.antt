-- Tables that are solved over small numbers alone.
use Rattle.std.specs.Prelude.{List, IsErr}
use Rattle.nf_frac_def.specs.Passing.{Passing, bound_of, beyond}
use Rattle.nf_linear_def.specs.Table.{Row, table_list}

-- the operations that pass where no part may have more than 63 bits
abbrev pub passes_small : Passing
passes_small = beyond (bound_of 63)

-- one of the operations of the table list is such
abbrev pub PassesSmall : List Row → Type 0
PassesSmall rows = IsErr (table_list passes_small rows)
