-- What is found of a table over small numbers alone.
use Rattle.std.proofs.Common.{◌≡◌, List, Option, Result, Ok, IfOk, IfSome, subst}
use Rattle.nf_thin_one.proofs.Common.{ℚ, passes_Q, Row, table_list, Solved, values_of}

-- it is what is found of the table
abbrev pub AreFoundOf : List Row → Solved ℚ → Type 0
AreFoundOf rows solved = table_list passes_Q rows ≡ Ok (values_of (λ (q : ℚ). q) solved)

pub small_found : {E : Type 0} (table rows : List Row) → table ≡ rows → (result : Result (Option (Solved ℚ)) E)
    → IfOk result (λ found. IfSome found (AreFoundOf table)) → IfOk result (λ found. IfSome found (AreFoundOf rows))
small_found table rows e result h = subst (λ (t : List Row). IfOk result (λ found. IfSome found (AreFoundOf t))) e h
