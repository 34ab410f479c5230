-- A loop over a list, one value after the other.
use Rattle.std.proofs.Common.{◌≡◌, ℕ, suc, ◌≤◌, List, length, drop, ap, refl, ◌∙◌, Some, slice_get, Result, Ok, Err}
use Rattle.nf_complete_conditions.proofs.Common.{drop_of_length-le, ℚ, Passed, PassedAt, fold_checked, placed, at_part, same_Err, drop_entry}
use Rattle.nf_frac_def.specs.declared.Part.{Part}
use Rattle.nf_frac_def.proofs.Each.{fold_ok, fold_err}

module _ {A B : Type 0} (f : B → A → Result B (Passed ℚ)) (xs : List A) (start : B) where
  abbrev pub FoldsOn : B → ℕ → Type 0
  FoldsOn so_far i = fold_checked f start xs ≡ fold_checked f so_far (drop i xs)

  module _ (so_far : B) (i : ℕ) (x : A) (at : slice_get xs i ≡ Some x) (so : FoldsOn so_far i) where
    pub folds_more : (next : B) → f so_far x ≡ Ok next → FoldsOn next (suc i)
    folds_more next e = so ∙ (ap (fold_checked f so_far) (drop_entry xs i x at) ∙ fold_ok f so_far x (drop (suc i) xs) next e)

    pub fold_stops : (part : Part) (p : PassedAt ℚ) → at_part part (f so_far x) ≡ Err p → at_part part (fold_checked f start xs) ≡ Err p
    fold_stops part p e = go (f so_far x) refl e
      where
        go : (r : Result B (Passed ℚ)) → f so_far x ≡ r → at_part part r ≡ Err p → at_part part (fold_checked f start xs) ≡ Err p
        go (Ok y) k e = absurd (cc)
        go (Err q) k e = ap (at_part part) (so ∙ (ap (fold_checked f so_far) (drop_entry xs i x at) ∙ fold_err f so_far x (drop (suc i) xs) q k))
            ∙ ap Err (same_Err {A = B} (placed part q) p e)

  pub fold_ends : (so_far : B) (i : ℕ) → length xs ≤ i → FoldsOn so_far i → fold_checked f start xs ≡ Ok so_far
  fold_ends so_far i end so = so ∙ ap (fold_checked f so_far) (drop_of_length-le xs end)
