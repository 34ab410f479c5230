-- Properties of each entry of a list, by index.
use Rattle.std.proofs.Common.{◌≡◌, ◌⊎◌, Vec, Global, ℕ, zero, suc, ◌+◌, ◌-◌, ◌<◌, List, [], ◌∷◌, ◌++◌, length, length-append, length-drop, get_or, take}
use Rattle.std.proofs.Common.{drop, add-one, inl, inr, ⊎_elim, refl, sym, ap, subst, ◌∙◌, arith, Some, slice_get}
use Rattle.nf_pattern.proofs.Common.{none-some, same_Some, slice_get-get_or, take_rest}

abbrev pub EachEntry : {A : Type 0} → (ℕ → A → Type 0) → List A → Type 0
EachEntry {A = A} P xs = (k : ℕ) (x : A) → slice_get xs k ≡ Some x → P k x

-- the entries of a list with one more at its end
pub entry_pushed : {A : Type 0} (xs : List A) (y : A) (k : ℕ) (x : A) → slice_get (xs ++ y ∷ []) k ≡ Some x → (slice_get xs k ≡ Some x) ⊎ ((k ≡ length xs) × (y ≡ x))
entry_pushed [] y zero x h = inr (refl, same_Some y x h)
entry_pushed [] y (suc k) x h = absurd (none-some x h)
entry_pushed (z ∷ xs) y zero x h = inl h
entry_pushed {A = A} (z ∷ xs) y (suc k) x h = ⊎_elim
    (λ (w : slice_get xs k ≡ Some x). inl w)
    (λ (w : (k ≡ length xs) × (y ≡ x)). inr (ap suc w.0, w.1)) (entry_pushed xs y k x h)

pub each_pushed : {A : Type 0} (P : ℕ → A → Type 0) (xs : List A) (y : A) (n : ℕ) → length xs ≡ n → EachEntry P xs → P n y → EachEntry P (xs ++ y ∷ [])
each_pushed {A = A} P xs y n count each here k x h = ⊎_elim
    (λ (w : slice_get xs k ≡ Some x). each k x w)
    (λ (w : (k ≡ length xs) × (y ≡ x)). subst (λ (z : A). P k z) w.1 (subst (λ (i : ℕ). P i y) (sym (w.0 ∙ count)) here))
    (entry_pushed xs y k x h)

pub length_pushed : {A : Type 0} (xs : List A) (y : A) (n : ℕ) → length xs ≡ n → length (xs ++ y ∷ []) ≡ n + 1
length_pushed xs y n h = let e = length-append xs (y ∷ []) in omega arith

-- One more entry of a prefix of a list.
pub take_pushed : {A : Type 0} (xs front pushed : List A) (i : ℕ) (x : A) → slice_get xs i ≡ Some x → front ≡ take i xs → pushed ≡ front ++ x ∷ [] → pushed ≡ take (i + 1) xs
take_pushed {A = A} xs front pushed i x at is e = e ∙ (ap (λ (ys : List A). ys ++ x ∷ []) is ∙ rw (add-one i) (sym (taken xs i at)))
  where
    taken : (ys : List A) (k : ℕ) → slice_get ys k ≡ Some x → take (suc k) ys ≡ take k ys ++ x ∷ []
    taken [] k h = absurd (none-some x h)
    taken (y ∷ ys) zero h = ap (λ (z : A). z ∷ []) (same_Some y x h)
    taken (y ∷ ys) (suc k) h = ap (λ (zs : List A). y ∷ zs) (taken ys k h)

-- an entry that is read
pub entry_at : {A : Type 0} (xs : List A) (d x : A) (e i : ℕ) → e < length xs → i ≡ e → get_or xs i d ≡ x → slice_get xs e ≡ Some x
entry_at {A = A} xs d x e i below at is = slice_get-get_or xs e d below ∙ ap (λ (y : A). Some y) (ap (λ (k : ℕ). get_or xs k d) (sym at) ∙ is)

pub entry_read : {A : Type 0} (xs : List A) (e i : ℕ) (x y : A) → e < length xs → i ≡ e → x ≡ get_or xs i x → slice_get xs e ≡ Some y → x ≡ y
entry_read xs e i x y below at is there = same_Some x y (sym (entry_at xs x x e i below at (sym is)) ∙ there)

-- no entry of an empty list
pub each_none : {A : Type 0} (P : ℕ → A → Type 0) (xs : List A) → xs ≡ [] → EachEntry P xs
each_none P xs none = subst (EachEntry P) (sym none) (λ k x at. absurd (none-some x at))

-- how many entries there are from one on
pub as_many_from : {A B : Type 0} (xs : List A) (ys : List B) (k : ℕ) → length xs ≡ length ys → length (take (length xs - k) (drop k xs)) ≡ length (take (length ys - k) (drop k ys))
as_many_from xs ys k e = ap length (take_rest xs k) ∙ (length-drop k xs ∙ (ap (λ (n : ℕ). n - k) e ∙ (sym (length-drop k ys) ∙ ap length (sym (take_rest ys k)))))

-- below how many entries a vector has
pub under_len : {A : Type 0} (v : Vec A Global) (i n : ℕ) → i ≡ n → n < length v.items → i < v.len
under_len v i n at below = let count = v.ok.0 in omega arith

-- all of the first of two lists
pub take_front : {A : Type 0} (xs ys : List A) (n : ℕ) → n ≡ length xs → take n (xs ++ ys) ≡ xs
take_front [] ys zero e = refl
take_front [] ys (suc n) e = absurd (omega arith)
take_front (x ∷ xs) ys zero e = absurd (omega arith)
take_front {A = A} (x ∷ xs) ys (suc n) e = ap (λ (l : List A). x ∷ l) (take_front xs ys n (omega arith))
