-- The loadings of links in the order of their numbers.
use Rattle.std.proofs.Common.{◌≡◌, ℕ, zero, suc, ◌+◌, List, [], ◌∷◌, length, ap, ◌∙◌, zero-add, arith, Some, slice_get, map}
use Rattle.nf_app_answers.proofs.Common.{enumerate_from, length-enumerate_from}

-- an element of a list, with its number, as a loop over the numbers has it
pub numbered_there : {X Y : Type 0} (f : X → Y) (xs : List X) (i : ℕ) (x : X) → slice_get xs i ≡ Some x → slice_get (enumerate_from 0 (map f xs)) i ≡ Some (i, f x)
numbered_there {X} {Y} f xs i x e = from 0 xs i e ∙ ap (λ (k : ℕ). Some (k, f x)) (zero-add i)
  where
    from : (a : ℕ) (xs : List X) (i : ℕ) → slice_get xs i ≡ Some x → slice_get (enumerate_from a (map f xs)) i ≡ Some (a + i, f x)
    from a [] i e = absurd (cc)
    from a (y ∷ ys) zero e = let same : y ≡ x = cc in let none : a ≡ a + 0 = omega arith in ap (λ (z : X). Some (a, f z)) same ∙ ap (λ (k : ℕ). Some (k, f x)) none
    from a (y ∷ ys) (suc i) e = let more : a + 1 + i ≡ a + suc i = omega arith in from (a + 1) ys i e ∙ ap (λ (k : ℕ). Some (k, f x)) more

pub numbered_length : {X Y : Type 0} (f : X → Y) (xs : List X) → length (enumerate_from 0 (map f xs)) ≡ length (map f xs)
numbered_length f xs = length-enumerate_from 0 (map f xs)
