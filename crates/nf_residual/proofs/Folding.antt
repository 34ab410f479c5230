-- A fold over a list of checked computations.
use Rattle.std.proofs.Common.{◌≡◌, ℕ, ◌+◌, ◌<◌, ◌≤◌, List, [], ◌∷◌, length, drop, get_or, sym, ap, subst, ◌∙◌, zero, suc, arith, Ok, Err}
use Rattle.nf_residual.proofs.Common.{AllByRecursion, drop_more, drop_all, ℚ, PassedAt, Checked, at_part, fold_checked, fold_ok}
use Rattle.nf_frac_def.specs.declared.Part.TheVariants as Part
use Rattle.nf_residual.proofs.Stopping.{ok_of_part, stopped}

-- A property of all members holds for each.
pub all_at : {A : Type 0} (P : A → Type 0) (xs : List A) (k : ℕ) (x : A) → AllByRecursion P xs → k < length xs → x ≡ get_or xs k x → P x
all_at P [] k x a h e = absurd (omega arith)
all_at P (y ∷ xs) zero x a h e = subst P (sym e) a.0
all_at P (y ∷ xs) (suc k) x a h e = all_at P xs k x a.1 (omega arith) e

-- The remaining members give the result of the whole list.
pub record FoldsOn {A B : Type 0} (f : B → A → Checked B) (xs : List A) (before now : B) (k : ℕ) : Type 0 where
  pub same : fold_checked f now (drop k xs) ≡ fold_checked f before xs

module _ {A B : Type 0} (f : B → A → Checked B) (xs : List A) (before now : B) (k : ℕ) (h : FoldsOn f xs before now k) where
  pub fold_all : length xs ≤ k → fold_checked f before xs ≡ Ok now
  fold_all b = sym h.same ∙ ap (λ (l : List A). fold_checked f now l) (drop_all k xs b)

  module _ (x : A) (b : k < length xs) (is : x ≡ get_or xs k x) where
    split : fold_checked f now (x ∷ drop (k + 1) xs) ≡ fold_checked f before xs
    split = ap (λ (l : List A). fold_checked f now l) (sym (drop_more xs k x b ∙ ap (λ (y : A). y ∷ drop (k + 1) xs) (sym is))) ∙ h.same

    pub fold_stops : (p : PassedAt ℚ) → Err p ≡ at_part Part.Quick (f now x) → Err p ≡ at_part Part.Quick (fold_checked f before xs)
    fold_stops p e = sym (ap (at_part Part.Quick) (sym split) ∙ stopped (f now x) (λ y. fold_checked f y (drop (k + 1) xs)) p (sym e))

    pub fold_more : (next : B) → Ok next ≡ at_part Part.Quick (f now x) → FoldsOn f xs before next (k + 1)
    fold_more next e = record { same = sym (fold_ok f now x (drop (k + 1) xs) next (ok_of_part (f now x) next (sym e))) ∙ split }
