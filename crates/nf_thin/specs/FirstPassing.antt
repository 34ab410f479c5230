-- The first pattern of which an operation passes, with its place.
use Rattle.std.specs.Prelude.{ℕ, Option, Some, None}
use Rattle.nf_rational.specs.Rational.{ℚ}
use Rattle.nf_frac_def.specs.declared.PassedAt.{PassedAt}
use Rattle.nf_thin.specs.declared.fault.SearchFault.{SearchFault}

-- The first recorded pattern stays; the present one is recorded if there is none.
abbrev pub or_first : Option (ℕ × PassedAt ℚ) → ℕ × PassedAt ℚ → Option (ℕ × PassedAt ℚ)
or_first (Some first) now = Some first
or_first None now = Some now

-- The cause for which nothing was found.
abbrev pub search_fault : Option (ℕ × PassedAt ℚ) → SearchFault
search_fault (Some (place, at)) = SearchFault.Passed place at
search_fault None = SearchFault.NoPattern
