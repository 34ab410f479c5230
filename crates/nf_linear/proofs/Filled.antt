-- Lists of one value, many times.
use Rattle.std.proofs.Common.{◌≡◌, ℕ, zero, suc, ◌-◌, List, [], ◌++◌, take, map, replicate, refl, ap, ◌∙◌, arith}

pub filled_up : {A : Type 0} (n k : ℕ) (old new : List A) (x : A) → new ≡ take n old ++ replicate (n - k) x → old ≡ [] → k ≡ 0 → new ≡ replicate n x
filled_up {A = A} n k old new x e o z =
    let all : n - k ≡ n = omega arith in
    e ∙ ap (λ (l : List A). take n l ++ replicate (n - k) x) o ∙ ap (λ (m : ℕ). take n [] ++ replicate m x) all ∙ none_first n (replicate n x)
  where
    none_first : (m : ℕ) (l : List A) → take m [] ++ l ≡ l
    none_first zero l = refl
    none_first (suc m) l = refl

pub copies_mapped : {A B : Type 0} (f : A → B) (n : ℕ) (x : A) (y : B) → f x ≡ y → map f (replicate n x) ≡ replicate n y
copies_mapped f zero x y e = refl
copies_mapped f (suc n) x y e = let rest = copies_mapped f n x y e in cc
