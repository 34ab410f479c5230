-- One entry of a list that is set.
use Rattle.std.proofs.Common.{◌≡◌, ◌≢◌, ℕ, zero, suc, ◌<◌, true, false, List, [], ◌∷◌, length, inl, inr, ◌⊎◌, ⊎_elim, eqb, Some, slice_get, slice_set, refl}
use Rattle.std.proofs.Common.{ap, arith}
use Rattle.nf_pattern.proofs.Common.{eqb_tells}

pub set_same : {A : Type 0} (xs : List A) (i : ℕ) (x : A) → i < length xs → slice_get (slice_set xs i x) i ≡ Some x
set_same [] i x h = absurd (omega arith)
set_same (y ∷ xs) zero x h = refl
set_same (y ∷ xs) (suc i) x h = set_same xs i x (omega arith)

pub set_other : {A : Type 0} (xs : List A) (i j : ℕ) (x : A) → j ≢ i → slice_get (slice_set xs i x) j ≡ slice_get xs j
set_other [] i j x other = refl
set_other (y ∷ xs) zero zero x other = absurd (other refl)
set_other (y ∷ xs) zero (suc j) x other = refl
set_other (y ∷ xs) (suc i) zero x other = refl
set_other (y ∷ xs) (suc i) (suc j) x other = set_other xs i j x (λ same. other (ap suc same))

-- whether two numbers are the same
pub tell : (v w : ℕ) → (v ≡ w) ⊎ (v ≢ w)
tell v w = ⊎_elim
    (λ (t : (eqb v w ≡ true) × (v ≡ w)). inl t.1)
    (λ (t : (eqb v w ≡ false) × (v ≢ w)). inr t.1)
    (eqb_tells v w)
