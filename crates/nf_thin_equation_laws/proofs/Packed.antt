-- The flows of the active links only, as unknowns of the table.
use Rattle.std.proofs.Common.{◌≡◌, ℕ, zero, suc, ◌+◌, List, [], ◌∷◌, ◌++◌, length, take, drop, Bool, true, false, refl, sym, ap, ◌∙◌, arith, Some}
use Rattle.nf_rational.specs.Rational.{ℚ}
use Rattle.nf_rational.specs.Operations.{0ℚ}
use Rattle.nf_model.specs.Entries.{number_at, Has}
use Rattle.nf_thin_def.specs.Equations.{active_from, onto_links}

abbrev pub packed : List Bool → List ℚ → List ℚ
packed [] flows = []
packed (active ∷ rest) [] = []
packed (true ∷ active) (x ∷ flows) = x ∷ packed active flows
packed (false ∷ active) (x ∷ flows) = packed active flows

pub packed-length : (active : List Bool) (k : ℕ) (flows : List ℚ) → length flows ≡ length active → length (packed active flows) ≡ length (active_from k active)
packed-length [] k flows e = refl
packed-length (b ∷ active) k [] e = absurd (cc)
packed-length (true ∷ active) k (x ∷ flows) e = ap suc (packed-length active (suc k) flows (cc))
packed-length (false ∷ active) k (x ∷ flows) e = packed-length active (suc k) flows (cc)

pub onto-length : (active : List Bool) (xs : List ℚ) → length (onto_links active xs) ≡ length active
onto-length [] xs = refl
onto-length (true ∷ active) [] = ap suc (onto-length active [])
onto-length (true ∷ active) (x ∷ xs) = ap suc (onto-length active xs)
onto-length (false ∷ active) xs = ap suc (onto-length active xs)

pub not_set : Some false ≡ Some true → ⊥
not_set e = cc

-- No flow is lost if the others are 0.
pub onto-packed : (active : List Bool) (flows : List ℚ) → length flows ≡ length active → ((e : ℕ) → (Has active e → ⊥) → number_at flows e ≡ 0ℚ)
    → onto_links active (packed active flows) ≡ flows
onto-packed [] [] e z = refl
onto-packed [] (x ∷ flows) e z = absurd (cc)
onto-packed (b ∷ active) [] e z = absurd (cc)
onto-packed (true ∷ active) (x ∷ flows) e z = ap (λ (l : List ℚ). x ∷ l) (onto-packed active flows (cc) (λ i n. z (suc i) n))
onto-packed (false ∷ active) (x ∷ flows) e z =
    ap (λ (y : ℚ). y ∷ onto_links active (packed active flows)) (sym (z 0 not_set)) ∙ ap (λ (l : List ℚ). x ∷ l) (onto-packed active flows (cc) (λ i n. z (suc i) n))

pub packed-onto : (active : List Bool) (k : ℕ) (xs : List ℚ) → length xs ≡ length (active_from k active) → packed active (onto_links active xs) ≡ xs
packed-onto [] k [] e = refl
packed-onto [] k (x ∷ xs) e = absurd (cc)
packed-onto (true ∷ active) k [] e = absurd (cc)
packed-onto (true ∷ active) k (x ∷ xs) e = ap (λ (l : List ℚ). x ∷ l) (packed-onto active (suc k) xs (cc))
packed-onto (false ∷ active) k xs e = packed-onto active (suc k) xs e

-- ---- two lists merged into one
pub take-front : (xs ys : List ℚ) (n : ℕ) → length xs ≡ n → take n (xs ++ ys) ≡ xs
take-front [] ys zero e = refl
take-front [] ys (suc n) e = absurd (cc)
take-front (x ∷ xs) ys zero e = absurd (cc)
take-front (x ∷ xs) ys (suc n) e = ap (λ (l : List ℚ). x ∷ l) (take-front xs ys n (cc))

pub drop-front : (xs ys : List ℚ) (n : ℕ) → length xs ≡ n → drop n (xs ++ ys) ≡ ys
drop-front [] ys zero e = refl
drop-front [] ys (suc n) e = absurd (cc)
drop-front (x ∷ xs) ys zero e = absurd (cc)
drop-front (x ∷ xs) ys (suc n) e = drop-front xs ys n (cc)

pub both_parts : (xs : List ℚ) (n : ℕ) → take n xs ++ drop n xs ≡ xs
both_parts xs zero = refl
both_parts [] (suc n) = refl
both_parts (x ∷ xs) (suc n) = ap (λ (l : List ℚ). x ∷ l) (both_parts xs n)

pub front-length : (xs : List ℚ) (n m : ℕ) → length xs ≡ n + m → length (take n xs) ≡ n
front-length xs zero m e = refl
front-length [] (suc n) m e = absurd (omega arith)
front-length (x ∷ xs) (suc n) m e = ap suc (front-length xs n m (omega arith))

pub rest-length : (xs : List ℚ) (n m : ℕ) → length xs ≡ n + m → length (drop n xs) ≡ m
rest-length xs zero m e = omega arith
rest-length [] (suc n) m e = absurd (omega arith)
rest-length (x ∷ xs) (suc n) m e = rest-length xs n m (omega arith)

pub onto-inactive : (active : List Bool) (xs : List ℚ) (e : ℕ) → (Has active e → ⊥) → number_at (onto_links active xs) e ≡ 0ℚ
onto-inactive [] xs e n = refl
onto-inactive (true ∷ active) [] zero n = refl
onto-inactive (true ∷ active) [] (suc e) n = onto-inactive active [] e n
onto-inactive (true ∷ active) (x ∷ xs) zero n = absurd (n refl)
onto-inactive (true ∷ active) (x ∷ xs) (suc e) n = onto-inactive active xs e n
onto-inactive (false ∷ active) xs zero n = refl
onto-inactive (false ∷ active) xs (suc e) n = onto-inactive active xs e n
