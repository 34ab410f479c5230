-- Sets of row or column numbers, each in one word: bit k is 1 exactly if the numbers that are k modulo 64 are in the set.
use Rattle.std.specs.Prelude.{◌≡◌, ℕ, ◌%◌, ◌≤◌, ◌<◌, List, [], ◌∷◌, length, set, get_or}
use Rattle.std.specs.Int.{bit_at}
use Rattle.std.specs.Int.RustNames.{bit_or}
use Rattle.nf_rational.specs.Rational.{ℚ}
use Rattle.nf_rational.specs.Operations.{0ℚ}
use Rattle.nf_model.specs.Entries.{number_at}
use Rattle.nf_linear_def.specs.Table.{Row, row_at}

-- the set does not contain the number
abbrev pub IsFree : ℕ → ℕ → Type 0
IsFree word number = bit_at word (number % 64) ≡ 0

-- each number of a set is in another
abbrev pub IsSubset : ℕ → ℕ → Type 0
IsSubset word other = (i : ℕ) → bit_at word i ≤ bit_at other i

-- the numbers of a row are 0, except perhaps in the columns of a set
abbrev pub AreZeroUnless : ℕ → Row → Type 0
AreZeroUnless columns row = (column : ℕ) → IsFree columns column → number_at row column ≡ 0ℚ

-- the numbers of a column are 0, except perhaps in the rows of a set
abbrev pub IsZeroUnless : ℕ → List Row → ℕ → Type 0
IsZeroUnless numbers rows column = (i : ℕ) → IsFree numbers i → number_at (row_at rows i) column ≡ 0ℚ

-- for each column with a set, the numbers are 0, except perhaps in the rows of its set
abbrev pub Covers : List ℕ → List Row → Type 0
Covers columns rows = (column : ℕ) → column < length columns → IsZeroUnless (get_or columns column 0) rows column

-- the rows are as before, except perhaps those of a set
abbrev pub AreSameUnless : ℕ → List Row → List Row → Type 0
AreSameUnless numbers rows before = (i : ℕ) → IsFree numbers i → row_at rows i ≡ row_at before i

-- the sets of the columns of some entries contain these numbers too
abbrev pub spread : ℕ → List (ℕ × ℚ) → List ℕ → List ℕ
spread numbers [] columns = columns
spread numbers (entry ∷ entries) columns = spread numbers entries (set columns entry.0 (bit_or (get_or columns entry.0 0) numbers))
