-- Entries of lists by index.
use Rattle.std.specs.Prelude.{◌≡◌, ℕ, true, Bool, List, Some, slice_get, unwrap_or}
use Rattle.nf_rational.specs.Rational.{ℚ}
use Rattle.nf_rational.specs.Operations.{0ℚ}

-- returns the number at index i, or 0 beyond the end
abbrev pub number_at : List ℚ → ℕ → ℚ
number_at xs i = unwrap_or (slice_get xs i) 0ℚ

-- the flag at index i is set
abbrev pub Has : List Bool → ℕ → Type 0
Has flags i = slice_get flags i ≡ Some true
