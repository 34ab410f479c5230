-- The values of the unknowns one by one: those so far stand before what comes of the rest.
use Rattle.std.proofs.Common.{◌≡◌, ℕ, suc, ◌+◌, ◌<◌, ◌≤◌, List, [], ◌∷◌, ◌++◌, length, drop, get_or, sym, ap, subst, ◌∙◌, add-one, Result, Ok, Err}
use Rattle.nf_linear.proofs.Common.{drop_of_length-le, drop-cons, append-nil, ℚ, Passing, Quotient, PassedAt, Checked, checked, checked_at, at_part, ◌>>=◌}
use Rattle.nf_linear.proofs.Common.{with_front, part_ok, number_at, Row, row_at, solution_from}
use Rattle.nf_frac_def.specs.declared.Part.TheVariants as Part
use Rattle.nf_linear.proofs.Fronts.{first_before, one_before, stopped, stopped_before}

module _ (passes : Passing) (rows : List Row) (pivots : List ℕ) where
  abbrev pub ValuesSoFar : List ℚ → ℕ → Type 0
  ValuesSoFar front column = with_front front (solution_from passes rows column (drop column pivots)) ≡ solution_from passes rows 0 pivots

  pub values_first : ValuesSoFar [] 0
  values_first = first_before (solution_from passes rows 0 pivots)

  abbrev last_over : Row → ℕ → ℕ → Result ℚ (PassedAt ℚ)
  last_over row right column = checked_at passes Part.Table Quotient (number_at row right) (number_at row column)

  module _ (front : List ℚ) (column : ℕ) (b : column < length pivots) (h : ValuesSoFar front column) where
    abbrev pub own : Row
    own = row_at rows (get_or pivots column 0)

    abbrev value : Checked ℚ
    value = checked passes Quotient (number_at own (length rows)) (number_at own column)

    seen : (row : Row) (right : ℕ) → row ≡ own → right ≡ length rows → last_over row right column ≡ at_part Part.Table value
    seen row right r l = ap (λ (row : Row). last_over row right column) r ∙ ap (λ (k : ℕ). last_over own k column) l

    abbrev rest : ℚ → Checked (List ℚ)
    rest x = solution_from passes rows (suc column) (drop (suc column) pivots) >>= λ xs. Ok (x ∷ xs)

    opened : with_front front (value >>= rest) ≡ solution_from passes rows 0 pivots
    opened = ap (λ (l : List ℕ). with_front front (solution_from passes rows column l)) (sym (drop-cons pivots column 0 b)) ∙ h

    pub values_stop : (row : Row) (right : ℕ) → row ≡ own → right ≡ length rows → (q : PassedAt ℚ) → Err q ≡ last_over row right column
        → at_part Part.Table (solution_from passes rows 0 pivots) ≡ Err q
    values_stop row right r l q e = ap (at_part Part.Table) (sym opened) ∙ stopped_before Part.Table (value >>= rest) front q
        (stopped Part.Table value rest q (sym (e ∙ seen row right r l)))

    pub values_more : (row : Row) (right : ℕ) → row ≡ own → right ≡ length rows → (x : ℚ) → Ok x ≡ last_over row right column → ValuesSoFar (front ++ x ∷ []) (column + 1)
    values_more row right r l x e =
        let n : column + 1 ≡ suc column = add-one column in
        subst (ValuesSoFar (front ++ x ∷ [])) (sym n)
        (sym (one_before (solution_from passes rows (suc column) (drop (suc column) pivots)) front x)
        ∙ ap (λ (r : Checked ℚ). with_front front (r >>= rest)) (sym (part_ok Part.Table value x (e ∙ seen row right r l)))
        ∙ opened)

  pub values_all : (front : List ℚ) (column : ℕ) → length pivots ≤ column → ValuesSoFar front column → at_part Part.Table (solution_from passes rows 0 pivots) ≡ Ok front
  values_all front column b h = ap (at_part Part.Table)
      (sym h ∙ ap (λ (l : List ℕ). with_front front (solution_from passes rows column l)) (drop_of_length-le pivots b) ∙ ap Ok (append-nil front))
