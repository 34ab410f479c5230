-- A loop that pushes a result for each numbered entry of a list: the results so far come before those of the remaining entries.
use Rattle.std.proofs.Common.{◌≡◌, ℕ, suc, ◌+◌, ◌≤◌, List, [], ◌∷◌, ◌++◌, length, drop, sym, ap, subst, refl, ◌∙◌, arith, Some, slice_get, Result, Ok, Err}
use Rattle.nf_thin_laws.proofs.Common.{drop_entry, enumerate_from, append-nil, ℚ, PassedAt, each, at_part, placed, same_Err, Part, Passed}
use Rattle.std.proofs.Math.ListN.{drop_of_length-le}
use Rattle.std.proofs.lemmas.List.FromFn.{length-enumerate_from}
use Rattle.nf_frac_def.proofs.AtPart.{part_ok}
use Rattle.nf_frac_def.proofs.Each.{with_front, each_ok, each_err}
use Rattle.nf_thin_laws.proofs.Ending.{enumerated}

module _ {A B : Type 0} (f : ℕ × A → Result B (Passed ℚ)) (xs : List A) where
  abbrev pub SoFar : List B → ℕ → Type 0
  SoFar front i = each f (enumerate_from 0 xs) ≡ with_front front (each f (drop i (enumerate_from 0 xs)))

  module _ (front : List B) (i : ℕ) (x : A) (at : slice_get xs i ≡ Some x) (so : SoFar front i) where
    left_is : drop i (enumerate_from 0 xs) ≡ (i, x) ∷ drop (suc i) (enumerate_from 0 xs)
    left_is = drop_entry (enumerate_from 0 xs) i (i, x) (subst (λ (j : ℕ). slice_get (enumerate_from 0 xs) i ≡ Some (j, x)) (omega arith) (enumerated 0 xs i x at))

    so_now : each f (enumerate_from 0 xs) ≡ with_front front (each f ((i, x) ∷ drop (suc i) (enumerate_from 0 xs)))
    so_now = so ∙ ap (λ (rest : List (ℕ × A)). with_front front (each f rest)) left_is

    -- One more entry.
    pub one_more : (part : Part) (y : B) → Ok y ≡ at_part part (f (i, x)) → SoFar (front ++ y ∷ []) (i + 1)
    one_more part y said =
        let later : suc i ≡ i + 1 = omega arith in
        subst (SoFar (front ++ y ∷ [])) later (so_now ∙ each_ok f front (i, x) (drop (suc i) (enumerate_from 0 xs)) y (part_ok part (f (i, x)) y said))

    -- An entry whose operation passes.
    pub one_passes : (part : Part) (p : PassedAt ℚ) → Err p ≡ at_part part (f (i, x)) → at_part part (each f (enumerate_from 0 xs)) ≡ Err p
    one_passes part p said = go (f (i, x)) refl said
      where
        go : (r : Result B (Passed ℚ)) → f (i, x) ≡ r → ◌≡◌ {A = Result B (PassedAt ℚ)} (Err p) (at_part part r) → at_part part (each f (enumerate_from 0 xs)) ≡ Err p
        go (Ok y) e k = absurd (cc)
        go (Err q) e k = ap (at_part part) (so_now ∙ each_err f front (i, x) (drop (suc i) (enumerate_from 0 xs)) q e) ∙ ap Err (same_Err {A = B} (placed part q) p (sym k))

  -- After the last entry.
  pub all_done : (part : Part) (front : List B) (i : ℕ) → length xs ≤ i → SoFar front i → at_part part (each f (enumerate_from 0 xs)) ≡ Ok front
  all_done part front i end so =
      let l : length (enumerate_from 0 xs) ≤ i = omega (arith, length-enumerate_from 0 xs) in
      ap (at_part part) (so ∙ (ap (λ (rest : List (ℕ × A)). with_front front (each f rest)) (drop_of_length-le (enumerate_from 0 xs) l) ∙ ap Ok (append-nil front)))
