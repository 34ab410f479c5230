-- Members of a list with one more number.
use Rattle.std.proofs.Common.{◌≡◌, ℕ, zero, suc, List, [], ◌∷◌, ◌⊎◌, inl, inr, arith, Contains}

pub contains_none : (x : ℕ) → Contains [] x → ⊥
contains_none x (k, h, e) = absurd (omega arith)

pub contains_first : (y : ℕ) (ys : List ℕ) (x : ℕ) → y ≡ x → Contains (y ∷ ys) x
contains_first y ys x e = (zero, omega arith, e)

pub contains_more : (y : ℕ) (ys : List ℕ) (x : ℕ) → Contains ys x → Contains (y ∷ ys) x
contains_more y ys x (k, h, e) = (suc k, omega arith, e)

pub contains_cases : (y : ℕ) (ys : List ℕ) (x : ℕ) → Contains (y ∷ ys) x → (y ≡ x) ⊎ Contains ys x
contains_cases y ys x (zero, h, e) = inl e
contains_cases y ys x (suc k, h, e) = inr (k, omega arith, e)
