-- A fold over a list, one value after the other.
use Rattle.std.proofs.Common.{◌≡◌, ℕ, suc, ◌≤◌, List, length, drop, ap, refl, ◌∙◌, Some, slice_get, Result, Ok, Err}
use Rattle.nf_thin_one.proofs.Common.{drop_of_length-le, ℚ, Part, Passed, PassedAt, fold_checked, placed, at_part, drop_entry}
use Rattle.nf_frac_def.proofs.Each.{fold_ok, fold_err}

module _ {A B E : Type 0} (f : B → A → Result B E) (xs : List A) (start : B) where
  pub goes_on : (so_far next : B) (i : ℕ) (x : A) → slice_get xs i ≡ Some x → fold_checked f start xs ≡ fold_checked f so_far (drop i xs) → f so_far x ≡ Ok next
      → fold_checked f start xs ≡ fold_checked f next (drop (suc i) xs)
  goes_on so_far next i x at h e = h ∙ (ap (fold_checked f so_far) (drop_entry xs i x at) ∙ fold_ok f so_far x (drop (suc i) xs) next e)

  pub stops : (so_far : B) (i : ℕ) (x : A) (p : E) → slice_get xs i ≡ Some x → fold_checked f start xs ≡ fold_checked f so_far (drop i xs)
      → f so_far x ≡ Err p → fold_checked f start xs ≡ Err p
  stops so_far i x p at h e = h ∙ (ap (fold_checked f so_far) (drop_entry xs i x at) ∙ fold_err f so_far x (drop (suc i) xs) p e)

  pub ends : (so_far : B) (i : ℕ) → length xs ≤ i → fold_checked f start xs ≡ fold_checked f so_far (drop i xs) → fold_checked f start xs ≡ Ok so_far
  ends so_far i end h = h ∙ ap (fold_checked f so_far) (drop_of_length-le xs end)

-- ---- with the part of the work
-- what passes in a step passes in the fold
pub stops_in : {A B : Type 0} (part : Part) (f : B → A → Result B (Passed ℚ)) (xs : List A) (start so_far : B) (i : ℕ) (x : A) (p : PassedAt ℚ) → slice_get xs i ≡ Some x
    → fold_checked f start xs ≡ fold_checked f so_far (drop i xs) → at_part part (f so_far x) ≡ Err p → at_part part (fold_checked f start xs) ≡ Err p
stops_in {B = B} part f xs start so_far i x p at h e = go (f so_far x) refl e
  where
    same : (q p : PassedAt ℚ) → ◌≡◌ {A = Result B (PassedAt ℚ)} (Err q) (Err p) → q ≡ p
    same q p e = cc

    go : (r : Result B (Passed ℚ)) → f so_far x ≡ r → at_part part r ≡ Err p → at_part part (fold_checked f start xs) ≡ Err p
    go (Ok y) k e = absurd (cc)
    go (Err q) k e = ap (at_part part) (stops f xs start so_far i x q at h k) ∙ ap Err (same (placed part q) p e)
