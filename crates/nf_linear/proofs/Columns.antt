-- The pivot of a column, found row by row; rows cleared one by one.
use Rattle.std.proofs.Common.{◌≡◌, ℕ, zero, suc, ◌+◌, ◌<◌, ◌≤◌, List, [], ◌∷◌, length, drop, get_or, Bool, true, false, not, ◌&&◌, refl, sym, ap, ◌∙◌}
use Rattle.std.proofs.Common.{add-one, arith, ◌==◌, if◌then◌else◌, Some, None}
use Rattle.nf_linear.proofs.Common.{list_any, number_at, is_zero, Row, row_at, pivot_from, AreTaken}

pub drop_row : (rows : List Row) (i : ℕ) → i < length rows → drop i rows ≡ row_at rows i ∷ drop (suc i) rows
drop_row [] i b = absurd (omega arith)
drop_row (x ∷ rows) zero b = refl
drop_row (x ∷ rows) (suc i) b = drop_row rows i (omega arith)

abbrev candidate : List Row → List ℕ → ℕ → ℕ → Bool
candidate rows pivots c i = not (list_any (λ pivot. pivot == i) pivots) && not (is_zero (number_at (row_at rows i) c))

at_row : (rows : List Row) (pivots : List ℕ) (c i : ℕ) → i < length rows
    → pivot_from i (drop i rows) pivots c ≡ (if candidate rows pivots c i then Some i else pivot_from (suc i) (drop (suc i) rows) pivots c)
at_row rows pivots c i b = ap (λ (l : List Row). pivot_from i l pivots c) (drop_row rows i b)

pub candidate_read : (rows : List Row) (pivots : List ℕ) (taken : List Bool) (c i : ℕ) (row : Row) (d t : Bool) → AreTaken taken pivots → i < length taken → row ≡ row_at rows i
    → t ≡ (not (get_or taken i d) && not (is_zero (number_at row c))) → t ≡ candidate rows pivots c i
candidate_read rows pivots taken c i row d t noted b e h =
    h ∙ ap (λ (x : Bool). not x && not (is_zero (number_at row c))) (noted i b d)
    ∙ ap (λ (r : Row). not (list_any (λ pivot. pivot == i) pivots) && not (is_zero (number_at r c))) e

pub pivot_here : (rows : List Row) (pivots : List ℕ) (c i : ℕ) (t : Bool) → i < length rows → t ≡ candidate rows pivots c i → t ≡ true → Some i ≡ pivot_from i (drop i rows) pivots c
pivot_here rows pivots c i t b e f = sym (at_row rows pivots c i b ∙ rw (sym e ∙ f) refl)

pub pivot_later : (rows : List Row) (pivots : List ℕ) (c i : ℕ) (t : Bool) → i < length rows → t ≡ candidate rows pivots c i → t ≡ false
    → pivot_from (i + 1) (drop (i + 1) rows) pivots c ≡ pivot_from i (drop i rows) pivots c
pivot_later rows pivots c i t b e f = sym (at_row rows pivots c i b ∙ rw (sym e ∙ f) (ap (λ (k : ℕ). pivot_from k (drop k rows) pivots c) (sym (add-one i))))

past_all : (rows : List Row) (pivots : List ℕ) (c i k : ℕ) → length rows ≤ i → None ≡ pivot_from k (drop i rows) pivots c
past_all [] pivots c zero k b = refl
past_all [] pivots c (suc i) k b = refl
past_all (row ∷ rows) pivots c zero k b = absurd (omega arith)
past_all (row ∷ rows) pivots c (suc i) k b = past_all rows pivots c i k (omega arith)

pub pivot_nowhere : (rows : List Row) (pivots : List ℕ) (c i : ℕ) → length rows ≤ i → None ≡ pivot_from i (drop i rows) pivots c
pivot_nowhere rows pivots c i b = past_all rows pivots c i i b
