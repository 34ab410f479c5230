-- A loop over a list, one value at a time: what is there so far stands before what comes of the rest.
use Rattle.std.proofs.Common.{ℕ, zero, suc, length, sym, ap, ◌∙◌, append_assoc, ◌≡◌, List, [], ◌∷◌, ◌++◌, Result, Ok, Err, Some, slice_get, refl}
use Rattle.std.proofs.lemmas.Option.{same_Some}
use Rattle.nf_frac_def.specs.Checked.{each, fold_checked, ◌>>=◌}
use Rattle.nf_frac_def.proofs.Binding.{bind_ok}
use Rattle.nf_frac_def.proofs.Exact.{same_value}

-- a list's front before what comes of the rest
abbrev pub with_front : {B E : Type 0} → List B → Result (List B) E → Result (List B) E
with_front front (Ok ys) = Ok (front ++ ys)
with_front front (Err p) = Err p

pub no_front : {B E : Type 0} (r : Result (List B) E) → with_front [] r ≡ r
no_front (Ok ys) = refl
no_front (Err p) = refl

module _ {A B E : Type 0} (f : A → Result B E) where
  front-cons : (front : List B) (y : B) (r : Result (List B) E) → with_front front (r >>= λ ys. Ok (y ∷ ys)) ≡ with_front (front ++ y ∷ []) r
  front-cons front y (Ok ys) = ap Ok (sym (append_assoc front (y ∷ []) ys))
  front-cons front y (Err p) = refl

  pub each_ok : (front : List B) (x : A) (rest : List A) (y : B) → f x ≡ Ok y → with_front front (each f (x ∷ rest)) ≡ with_front (front ++ y ∷ []) (each f rest)
  each_ok front x rest y e = ap (λ r. with_front front (r >>= λ y. each f rest >>= λ ys. Ok (y ∷ ys))) e ∙ front-cons front y (each f rest)

  pub each_err : (front : List B) (x : A) (rest : List A) (p : E) → f x ≡ Err p → with_front front (each f (x ∷ rest)) ≡ Err p
  each_err front x rest p e = ap (λ r. with_front front (r >>= λ y. each f rest >>= λ ys. Ok (y ∷ ys))) e

module _ {A B E : Type 0} (f : B → A → Result B E) where
  pub fold_ok : (so_far : B) (x : A) (rest : List A) (next : B) → f so_far x ≡ Ok next → fold_checked f so_far (x ∷ rest) ≡ fold_checked f next rest
  fold_ok so_far x rest next e = ap (λ r. r >>= λ y. fold_checked f y rest) e

  pub fold_err : (so_far : B) (x : A) (rest : List A) (p : E) → f so_far x ≡ Err p → fold_checked f so_far (x ∷ rest) ≡ Err p
  fold_err so_far x rest p e = ap (λ r. r >>= λ y. fold_checked f y rest) e

-- ---- the values of a loop that ends
pub each_length : {A B E : Type 0} (f : A → Result B E) (xs : List A) (ys : List B) → each f xs ≡ Ok ys → length ys ≡ length xs
each_length f [] ys e = ap length (sym (same_value _ [] ys refl e))
each_length f (x ∷ xs) ys e =
    let first = bind_ok (f x) _ ys e in
    let rest = bind_ok (each f xs) _ ys first.2 in
    ap length (sym (same_value _ _ ys refl rest.2)) ∙ ap suc (each_length f xs rest.0 rest.1)

pub each_at : {A B E : Type 0} (f : A → Result B E) (xs : List A) (ys : List B) (i : ℕ) (x : A) → each f xs ≡ Ok ys → slice_get xs i ≡ Some x
    → (y : B) × (slice_get ys i ≡ Some y) × (f x ≡ Ok y)
each_at f [] ys i x e h = absurd (cc)
each_at f (w ∷ xs) ys zero x e h =
    let first = bind_ok (f w) _ ys e in
    let rest = bind_ok (each f xs) _ ys first.2 in
    (first.0, ap (λ (l : List _). slice_get l 0) (sym (same_value _ _ ys refl rest.2)), ap f (sym (same_Some w x h)) ∙ first.1)
each_at f (w ∷ xs) ys (suc i) x e h =
    let first = bind_ok (f w) _ ys e in
    let rest = bind_ok (each f xs) _ ys first.2 in
    let y = each_at f xs rest.0 i x rest.1 h in
    (y.0, ap (λ (l : List _). slice_get l (suc i)) (sym (same_value _ _ ys refl rest.2)) ∙ y.1, y.2)
