-- Rows in place: a number that is read or set in one, and fronts of lists.
use Rattle.std.proofs.Common.{◌≡◌, ℕ, zero, suc, ◌+◌, ◌<◌, ◌≤◌, List, [], ◌∷◌, ◌++◌, length, set, take, get_or, replicate, refl, sym, ap, subst, ◌∙◌, arith}
use Rattle.std.proofs.Common.{length-take-le, length-append}
use Rattle.nf_linear.proofs.Common.{take_all, ℚ, number_at}

pub row_set_cell : (cells : List ℚ) (right x : ℚ) (n column : ℕ) → column < n → n ≤ length cells → take n (set cells column x) ++ right ∷ [] ≡ set (take n cells ++ right ∷ []) column x
row_set_cell [] right x zero column b e = absurd (omega arith)
row_set_cell [] right x (suc n) column b e = absurd (omega arith)
row_set_cell (y ∷ cells) right x zero column b e = absurd (omega arith)
row_set_cell (y ∷ cells) right x (suc n) zero b e = refl
row_set_cell (y ∷ cells) right x (suc n) (suc column) b e = ap (λ (l : List ℚ). y ∷ l) (row_set_cell cells right x n column (omega arith) (omega arith))

pub row_set_right : (front : List ℚ) (right x : ℚ) (column : ℕ) → column ≡ length front → front ++ x ∷ [] ≡ set (front ++ right ∷ []) column x
row_set_right [] right x zero e = refl
row_set_right [] right x (suc column) e = absurd (omega arith)
row_set_right (y ∷ front) right x zero e = absurd (omega arith)
row_set_right (y ∷ front) right x (suc column) e = ap (λ (l : List ℚ). y ∷ l) (row_set_right front right x column (omega arith))

pub row_long : (cells now : List ℚ) (right : ℚ) (n : ℕ) → take n cells ++ right ∷ [] ≡ now → n ≤ length cells → length now ≡ n + 1
row_long cells now right n e b =
    let front : length (take n cells) ≡ n = length-take-le n cells b in
    sym (ap (length {A = ℚ}) e) ∙ length-append (take n cells) (right ∷ []) ∙ ap (λ (k : ℕ). k + 1) front

pub cell_at : (cells now : List ℚ) (right d : ℚ) (n column : ℕ) → take n cells ++ right ∷ [] ≡ now → column < n → n ≤ length cells → get_or cells column d ≡ number_at now column
cell_at cells now right d n column e b k = go cells n column b k ∙ ap (λ (l : List ℚ). number_at l column) e
  where
    go : (cells : List ℚ) (n column : ℕ) → column < n → n ≤ length cells → get_or cells column d ≡ number_at (take n cells ++ right ∷ []) column
    go [] zero column b k = absurd (omega arith)
    go [] (suc n) column b k = absurd (omega arith)
    go (y ∷ cells) zero column b k = absurd (omega arith)
    go (y ∷ cells) (suc n) zero b k = refl
    go (y ∷ cells) (suc n) (suc column) b k = go cells n column (omega arith) (omega arith)

pub all_copies : {A : Type 0} (rows : List A) (i n : ℕ) (x : A) → take i rows ≡ replicate i x → length rows ≡ n → n ≤ i → i ≤ n → rows ≡ replicate n x
all_copies rows i n x same long end within =
    sym (take_all i rows (subst (λ (m : ℕ). m ≤ i) (sym long) end)) ∙ same ∙ ap (λ (k : ℕ). replicate k x) (omega (arith, end, within))

pub last_column : (column size long front : ℕ) → column < long → long ≡ size + 1 → size ≤ column → front ≡ size → column ≡ front
last_column column size long front h e b f = omega (arith, h, e, b, f)
