-- The rows of a grid, once those in front are written anew.
use Rattle.std.proofs.Common.{◌≡◌, ℕ, zero, suc, ◌+◌, ◌<◌, ◌≤◌, List, ◌++◌, length, set, take, drop, replicate, refl, sym, subst, ap, ◌∙◌, arith}
use Rattle.std.proofs.Common.{length-take-le}
use Rattle.nf_linear.proofs.Common.{length-set, take-append_seam, length-replicate, ℚ, 0ℚ, Row, row_at, IsSquare}
use Rattle.nf_linear.proofs.Clearing.{row_got}
use Rattle.nf_linear.proofs.Changed.{still_square}

-- what stands in front
front : (n : ℕ) (new rest : List Row) → length new ≡ n → take n (new ++ rest) ≡ new
front n new rest e = subst (λ (k : ℕ). take k (new ++ rest) ≡ new) e (take-append_seam new rest)

-- as many as are seen
pub seen_long : (rows now : List Row) (n : ℕ) → n ≤ length rows → take n rows ≡ now → length now ≡ n
seen_long rows now n long view = sym (ap length view) ∙ length-take-le n rows long

-- ---- a number of a row is set
module _ (rows now : List Row) (n row column : ℕ) (x : ℚ) (new rest : List Row) (long : n ≤ length rows) (view : take n rows ≡ now)
    (written : new ≡ set (take n rows) row (set (row_at (take n rows) row) column x)) where
  in_front : take n (new ++ rest) ≡ set (take n rows) row (set (row_at (take n rows) row) column x)
  in_front = front n new rest (ap length written ∙ length-set (take n rows) row (set (row_at (take n rows) row) column x) ∙ length-take-le n rows long) ∙ written

  pub set_seen : take n (new ++ rest) ≡ set now row (set (row_at now row) column x)
  set_seen = in_front ∙ ap (λ (l : List Row). set l row (set (row_at l row) column x)) view

  pub set_square : IsSquare (take n rows) → row < length now → IsSquare (take n (new ++ rest))
  set_square square below = subst IsSquare (sym in_front)
      (still_square (take n rows) now row column x (row_at (take n rows) row) (set (row_at (take n rows) row) column x) square view below
      (sym (row_got (take n rows) row (row_at (take n rows) row) (subst (λ (l : List Row). row < length l) (sym view) below))) refl)

-- ---- all numbers are 0
row_of_zero : (n : ℕ) (r : Row) (i : ℕ) → i < n → row_at (replicate n r) i ≡ r
row_of_zero zero r i b = absurd (omega arith)
row_of_zero (suc n) r zero b = refl
row_of_zero (suc n) r (suc i) b = row_of_zero n r i (omega arith)

pub zero_square : (n : ℕ) → IsSquare (replicate n (replicate (n + 1) 0ℚ))
zero_square n i b =
    let count : length (replicate n (replicate (n + 1) 0ℚ)) ≡ n = length-replicate n (replicate (n + 1) 0ℚ) in
    let wide : length (replicate (n + 1) 0ℚ) ≡ n + 1 = length-replicate (n + 1) 0ℚ in
    let row : length (row_at (replicate n (replicate (n + 1) 0ℚ)) i) ≡ length (replicate (n + 1) 0ℚ) = ap length (row_of_zero n (replicate (n + 1) 0ℚ) i (omega arith)) in
    omega arith

-- this many rows of zeros in front
module _ (n many : ℕ) (new rest : List Row) (count : many ≡ n) (wiped : new ≡ replicate many (replicate (n + 1) 0ℚ)) where
  pub zero_seen : take n (new ++ rest) ≡ replicate n (replicate (n + 1) 0ℚ)
  zero_seen =
      let anew : new ≡ replicate n (replicate (n + 1) 0ℚ) = wiped ∙ ap (λ (k : ℕ). replicate k (replicate (n + 1) 0ℚ)) count in
      front n new rest (ap length anew ∙ length-replicate n (replicate (n + 1) 0ℚ)) ∙ anew

  pub zeros_square : IsSquare (take n (new ++ rest))
  zeros_square = subst IsSquare (sym zero_seen) (zero_square n)

-- how many rows stand in front of others
pub still_long : (rows : List Row) (n : ℕ) (solved : List Row) → n ≤ length rows → length solved ≡ length (take n rows) → length (take n (solved ++ drop n rows)) ≡ n
still_long rows n solved long kept = let still : length solved ≡ n = kept ∙ length-take-le n rows long in ap length (front n solved (drop n rows) still) ∙ still
