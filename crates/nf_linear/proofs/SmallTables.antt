-- Where none of the operations of a table's list passes over small numbers, none passes over wide ones.
use Rattle.std.proofs.Common.{◌≡◌, List, sym, Option, Ok}
use Rattle.nf_linear.proofs.Common.{ℚ, passes_Q, at_part, Row, table_list, table_list_under, part_ok}
use Rattle.nf_frac_def.specs.declared.Part.TheVariants as Part
use Rattle.nf_frac.proofs.Passing.{short_passes_first}
use Rattle.nf_linear.specs.SmallTables.{passes_small}

pub solved_small : (rows : List Row) (v : Option (List ℚ)) → at_part Part.Table (table_list passes_small rows) ≡ Ok v → table_list passes_small rows ≡ Ok v
solved_small rows v e = part_ok Part.Table (table_list passes_small rows) v (sym e)

pub solved_wide : (rows : List Row) (v : Option (List ℚ)) → at_part Part.Table (table_list passes_small rows) ≡ Ok v → table_list passes_Q rows ≡ Ok v
solved_wide rows v e = table_list_under passes_small passes_Q short_passes_first rows v (solved_small rows v e)
