-- One number of a row is read, or changed in a row of a table.
use Rattle.std.proofs.Common.{◌≡◌, ℕ, zero, suc, ◌<◌, List, [], ◌∷◌, length, set, get_or, map, refl, sym, ap, ◌∙◌, arith}
use Rattle.nf_linear.proofs.Common.{length-set, length-map, ℚ, number_at, Row, row_at, IsSquare}
use Rattle.nf_linear.proofs.Clearing.{row_read}

-- a value that is read means the number there
pub cell_read : {A : Type 0} (means : A → ℚ) (xs : List A) (i : ℕ) (x : A) → i < length xs → x ≡ get_or xs i x → means x ≡ number_at (map means xs) i
cell_read means [] i x below is = absurd (omega arith)
cell_read means (y ∷ xs) zero x below is = ap means is
cell_read means (y ∷ xs) (suc i) x below is = cell_read means xs i x (omega arith) is

pub cells_below : {A : Type 0} (means : A → ℚ) (xs : List A) (row : List ℚ) (i : ℕ) → map means xs ≡ row → i < length row → i < length xs
cells_below means xs row i same below = omega (arith, ap length same, length-map xs means)

-- the rows with the changed one
pub changed_row : (rows now : List Row) (i column : ℕ) (x : ℚ) (row after : Row) → rows ≡ now → i < length now → row ≡ get_or rows i row → after ≡ set row column x
    → set rows i after ≡ set now i (set (row_at now i) column x)
changed_row rows now i column x row after same below is changed =
    ap (λ (r : Row). set rows i r) (changed ∙ ap (λ (r : Row). set r column x) (row_read rows i row (omega (arith, ap length same)) is))
    ∙ ap (λ (l : List Row). set l i (set (row_at l i) column x)) same

-- each row is as long as before
lengths_kept : (rows : List Row) (i : ℕ) (after : Row) (j : ℕ) → length after ≡ length (row_at rows i) → length (row_at (set rows i after) j) ≡ length (row_at rows j)
lengths_kept [] i after j long = refl
lengths_kept (y ∷ rows) zero after zero long = long
lengths_kept (y ∷ rows) zero after (suc j) long = refl
lengths_kept (y ∷ rows) (suc i) after zero long = refl
lengths_kept (y ∷ rows) (suc i) after (suc j) long = lengths_kept rows i after j long

pub still_square : (rows now : List Row) (i column : ℕ) (x : ℚ) (row after : Row) → IsSquare rows → rows ≡ now → i < length now → row ≡ get_or rows i row
    → after ≡ set row column x → IsSquare (set rows i after)
still_square rows now i column x row after square same below is changed j inside =
    let count : length (set rows i after) ≡ length rows = length-set rows i after in
    let long : length after ≡ length (row_at rows i) = ap length changed ∙ length-set row column x ∙ ap length (row_read rows i row (omega (arith, ap length same)) is) in
    lengths_kept rows i after j long ∙ square j (omega arith) ∙ ap suc (sym count)
