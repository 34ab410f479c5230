-- A slice that is written from its start on.
use Rattle.std.proofs.Common.{◌≡◌, ℕ, ◌+◌, ◌<◌, List, [], ◌∷◌, ◌++◌, length, take, set, ap, ◌∙◌, add-one}
use Rattle.nf_thin_one.proofs.Common.{take_set}

pub take_more : {A : Type 0} (xs : List A) (i : ℕ) (x : A) → i < length xs → take (i + 1) (set xs i x) ≡ take i xs ++ x ∷ []
take_more xs i x h = ap (λ (j : ℕ). take j (set xs i x)) (add-one i) ∙ take_set xs i x h
