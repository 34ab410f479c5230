-- The operation sequence of slacks: its value at the end, and the operation that passes.
use Rattle.std.proofs.Common.{◌≡◌, ℕ, suc, ◌+◌, ◌<◌, ◌≤◌, List, [], ◌∷◌, ◌++◌, length, get_or, drop, drop-cons, add-one, refl, sym, ap, ◌∙◌}
use Rattle.std.specs.Prelude.{Result, Ok, Err}
use Rattle.std.proofs.Math.ListN.{drop_of_length-le}
use Rattle.std.proofs.lemmas.List.{append-nil}
use Rattle.nf_rational.specs.Rational.{ℚ}
use Rattle.nf_frac_def.specs.declared.Part.{Part}
use Rattle.nf_frac_def.specs.declared.Passed.{Passed}
use Rattle.nf_frac_def.specs.declared.PassedAt.{PassedAt}
use Rattle.nf_frac_def.specs.Checked.{each, at_part}
use Rattle.nf_frac_def.proofs.Each.{with_front, each_ok, each_err}

-- after the last one
pub all_said : {A : Type 0} (f : A → Result ℚ (Passed ℚ)) (xs : List A) (front : List ℚ) (i : ℕ) → length xs ≤ i
    → each f xs ≡ with_front front (each f (drop i xs)) → each f xs ≡ Ok front
all_said f xs front i end h = h ∙ (ap (λ (rest : List _). with_front front (each f rest)) (drop_of_length-le xs end) ∙ ap Ok (append-nil front))

-- at one that passes
pub passed_at : {A : Type 0} (f : A → Result ℚ (Passed ℚ)) (xs : List A) (front : List ℚ) (i : ℕ) (x : A) (p : Passed ℚ) → i < length xs → x ≡ get_or xs i x
    → each f xs ≡ with_front front (each f (drop i xs)) → f x ≡ Err p → each f xs ≡ Err p
passed_at f xs front i x p below is h passes =
    h ∙ (ap (λ (rest : List _). with_front front (each f rest)) (drop-cons xs i x below ∙ ap (λ (y : _). y ∷ drop (suc i) xs) (sym is)) ∙ each_err f front x (drop (suc i) xs) p passes)

-- at one that gives a value
pub given_at : {A : Type 0} (f : A → Result ℚ (Passed ℚ)) (xs : List A) (front : List ℚ) (i : ℕ) (x : A) (y : ℚ) → i < length xs → x ≡ get_or xs i x
    → each f xs ≡ with_front front (each f (drop i xs)) → f x ≡ Ok y → each f xs ≡ with_front (front ++ y ∷ []) (each f (drop (i + 1) xs))
given_at f xs front i x y below is h gives = rw (add-one, ← each_ok f front x (drop (suc i) xs) y gives)
    (h ∙ ap (λ (rest : List _). with_front front (each f rest)) (drop-cons xs i x below ∙ ap (λ (y : _). y ∷ drop (suc i) xs) (sym is)))

-- the same with the part
pub given_in : {A : Type 0} (part : Part) (f : A → Result ℚ (Passed ℚ)) (xs : List A) (front : List ℚ) (i : ℕ) (x : A) (y : ℚ) → i < length xs → x ≡ get_or xs i x
    → each f xs ≡ with_front front (each f (drop i xs)) → Ok y ≡ at_part part (f x) → each f xs ≡ with_front (front ++ y ∷ []) (each f (drop (i + 1) xs))
given_in part f xs front i x y below is h gives = go (f x) refl gives
  where
    go : (r : Result ℚ (Passed ℚ)) → f x ≡ r → ◌≡◌ {A = Result ℚ (PassedAt ℚ)} (Ok y) (at_part part r) → each f xs ≡ with_front (front ++ y ∷ []) (each f (drop (i + 1) xs))
    go (Ok q) e k = given_at f xs front i x y below is h (e ∙ let same : q ≡ y = cc in ap Ok same)
    go (Err q) e k = absurd (cc)

same_fault : (p q : PassedAt ℚ) → ◌≡◌ {A = Result ℚ (PassedAt ℚ)} (Err p) (Err q) → p ≡ q
same_fault p q e = cc

-- the same with the part
pub passed_in : {A : Type 0} (part : Part) (f : A → Result ℚ (Passed ℚ)) (xs : List A) (front : List ℚ) (i : ℕ) (x : A) (p : PassedAt ℚ) → i < length xs → x ≡ get_or xs i x
    → each f xs ≡ with_front front (each f (drop i xs)) → Err p ≡ at_part part (f x) → at_part part (each f xs) ≡ Err p
passed_in part f xs front i x p below is h passes = go (f x) refl passes
  where
    go : (r : Result ℚ (Passed ℚ)) → f x ≡ r → ◌≡◌ {A = Result ℚ (PassedAt ℚ)} (Err p) (at_part part r) → at_part part (each f xs) ≡ Err p
    go (Ok q) e k = absurd (cc)
    go (Err q) e k = ap (at_part part) (passed_at f xs front i x q below is h e) ∙ ap Err (same_fault _ _ (sym k))
