-- Lists that are filled entry by entry.
use Rattle.std.proofs.Common.{◌≡◌, ⊎_elim, ℕ, zero, suc, ◌+◌, ◌<◌, List, [], ◌∷◌, length, refl, sym, ap, ◌∙◌, arith, Some, slice_get, slice_set}
use Rattle.nf_thin_narrow.proofs.Common.{before_or_at}
use Rattle.nf_pattern.proofs.Setting.{set_same, set_other}

-- the first entries are those of another list
abbrev pub AreFilled : {A : Type 0} → List A → List A → ℕ → Type 0
AreFilled target xs n = (k : ℕ) → k < n → slice_get xs k ≡ slice_get target k

pub filled_more : {A : Type 0} (target xs : List A) (n e : ℕ) (x : A) → n ≡ e → e < length xs → slice_get target e ≡ Some x → AreFilled target xs n
    → AreFilled target (slice_set xs e x) (e + 1)
filled_more {A = A} target xs n e x at below is so k less = ⊎_elim
    (λ (early : k < e). set_other xs e k x (λ same. absurd (omega arith)) ∙ so k (omega arith))
    (λ (same : k ≡ e). ap (slice_get (slice_set xs e x)) same ∙ (set_same xs e x below ∙ (sym is ∙ ap (slice_get target) (sym same))))
    (before_or_at k e less)

pub length_set : {A : Type 0} (xs : List A) (i : ℕ) (x : A) → length (slice_set xs i x) ≡ length xs
length_set [] i x = refl
length_set (y ∷ xs) zero x = refl
length_set (y ∷ xs) (suc i) x = ap suc (length_set xs i x)
