-- The pivot rows noted so far, and of each row whether it is one of them.
use Rattle.std.proofs.Common.{◌≡◌, ℕ, ◌<◌, List, [], ◌∷◌, ◌++◌, length, set, get_or, Bool, true, false, ◌||◌, eqb, refl, sym, ap, subst, ◌∙◌, length-set}
use Rattle.std.proofs.Common.{◌==◌}
use Rattle.nf_linear.proofs.Common.{list_any, get_or-set_same, get_or-set_other, or-true, or-false, AreTaken}
use Rattle.std.proofs.lemmas.List.Folds.{list_any-append}
use borrow.Author.Tests.{eqb-true, eq-eqb}

true_false : true ≡ false → ⊥
true_false e = cc

other_row : (row i : ℕ) (b : Bool) → (row ≡ i → ⊥) → eqb row i ≡ b → eqb row i ≡ false
other_row row i true apart e = absurd (apart (eqb-true row i e))
other_row row i false apart e = e

-- one more pivot row: each other row is one of them where it was
one_more : (rows : List ℕ) (row i : ℕ) (b : Bool) → eqb row i ≡ b → list_any (λ pivot. pivot == i) (rows ++ row ∷ []) ≡ (list_any (λ pivot. pivot == i) rows || (b || false))
one_more rows row i b e = list_any-append (λ pivot. pivot == i) rows (row ∷ []) ∙ ap (λ (t : Bool). list_any (λ pivot. pivot == i) rows || (t || false)) e

other_more : (rows : List ℕ) (row i : ℕ) → (row ≡ i → ⊥) → list_any (λ pivot. pivot == i) (rows ++ row ∷ []) ≡ list_any (λ pivot. pivot == i) rows
other_more rows row i apart = one_more rows row i false (other_row row i _ apart refl) ∙ or-false _

pub taken_more : (taken : List Bool) (rows : List ℕ) (row : ℕ) (after : List ℕ) → row < length taken → after ≡ rows ++ row ∷ [] → AreTaken taken rows
    → AreTaken (set taken row true) after
taken_more taken rows row after some e h i b d = go (eqb row i) refl ∙ ap (list_any (λ pivot. pivot == i)) (sym e)
  where
    go : (t : Bool) → eqb row i ≡ t → get_or (set taken row true) i d ≡ list_any (λ pivot. pivot == i) (rows ++ row ∷ [])
    go true f =
        ap (λ (k : ℕ). get_or (set taken row true) k d) (sym (eqb-true row i f)) ∙ get_or-set_same taken row true d some
        ∙ sym (one_more rows row i true f ∙ or-true _)
    go false f =
        let apart : row ≡ i → ⊥ = (λ (same : row ≡ i). absurd (true_false (sym (eq-eqb row i same) ∙ f))) in
        get_or-set_other taken row i true d (λ same. apart (sym same))
        ∙ h i (subst (λ (n : ℕ). i < n) (length-set taken row true) b) d
        ∙ sym (other_more rows row i apart)
