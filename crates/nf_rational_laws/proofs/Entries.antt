-- The entries of lists.
use Rattle.std.proofs.Common.{◌≡◌, ◌⊎◌, inl, inr, ⊎_elim, ℕ, zero, suc, ◌+◌, ◌<◌, List, [], ◌∷◌, ◌++◌, length, slice_get, get_or, unwrap_or, set, take}
use Rattle.std.proofs.Common.{drop, replicate, sym, ap, ◌∙◌, refl, arith, option_map, Option, Some, map}
use Rattle.std.specs.List.{last_or, enumerate_from, range_with_len, AllByRecursion}
use Rattle.std.proofs.lemmas.List.FromFn.{get_or-range_with_len, length-range_with_len}
use Rattle.std.proofs.lemmas.Option.{slice_get-map, slice_get-get_or, same_Some, none-some}

pub entry : {A : Type 0} (xs : List A) (e : ℕ) → e < length xs → (x : A) × (slice_get xs e ≡ Some x)
entry (x ∷ xs) e h = (get_or (x ∷ xs) e x, slice_get-get_or (x ∷ xs) e x h)
entry [] e h = absurd (omega arith)

pub slice_get-image : {A B : Type 0} (f : A → B) (xs : List A) (e : ℕ) (x : A) → slice_get xs e ≡ Some x → slice_get (map f xs) e ≡ Some (f x)
slice_get-image f xs e x h = slice_get-map f xs e ∙ ap (option_map f) h

pub last-append : {A : Type 0} (o : Option A) (xs : List A) (x : A) → last_or o (xs ++ x ∷ []) ≡ Some x
last-append o [] x = refl
last-append o (y ∷ xs) x = last-append (Some y) xs x

pub length-enumerated : {A : Type 0} (k : ℕ) (xs : List A) → length (enumerate_from k xs) ≡ length xs
length-enumerated k [] = refl
length-enumerated k (x ∷ xs) = ap suc (length-enumerated (k + 1) xs)

-- lists of one length with equal entries
pub same_entries : {A : Type 0} (d : A) (xs ys : List A) → length xs ≡ length ys → ((i : ℕ) → i < length xs → unwrap_or (slice_get xs i) d ≡ unwrap_or (slice_get ys i) d) → xs ≡ ys
same_entries d [] [] h e = refl
same_entries d [] (y ∷ ys) h e = absurd (cc)
same_entries d (x ∷ xs) [] h e = absurd (cc)
same_entries d (x ∷ xs) (y ∷ ys) h e = let a : x ≡ y = e 0 (omega arith) in let b : xs ≡ ys = same_entries d xs ys (cc) (λ i k. e (suc i) (omega arith)) in cc

-- ---- what stands from an entry on
pub drop_entry : {A : Type 0} (xs : List A) (i : ℕ) (x : A) → slice_get xs i ≡ Some x → drop i xs ≡ x ∷ drop (suc i) xs
drop_entry [] i x h = absurd (none-some x h)
drop_entry (y ∷ xs) zero x h = ap (λ (z : _). z ∷ xs) (same_Some y x h)
drop_entry (y ∷ xs) (suc i) x h = drop_entry xs i x h

pub drop_next : {A : Type 0} (xs : List A) (i : ℕ) (x : A) → slice_get xs i ≡ Some x → drop i xs ≡ x ∷ drop (i + 1) xs
drop_next {A} xs i x h = drop_entry xs i x h ∙ ap (λ (k : ℕ). x ∷ drop k xs) (let same : suc i ≡ i + 1 = omega arith in same)

-- ---- a list with one entry written
pub set_same : {A : Type 0} (xs : List A) (v : ℕ) (y : A) → v < length xs → slice_get (set xs v y) v ≡ Some y
set_same [] v y h = absurd (omega arith)
set_same (x ∷ xs) zero y h = refl
set_same (x ∷ xs) (suc v) y h = set_same xs v y (omega arith)

pub set_cases : {A : Type 0} (xs : List A) (v w : ℕ) (y x : A) → slice_get (set xs v y) w ≡ Some x → ((w ≡ v) × (x ≡ y)) ⊎ (slice_get xs w ≡ Some x)
set_cases [] v w y x h = inr h
set_cases (p ∷ xs) zero zero y x h = inl (refl, same_Some x y (sym h))
set_cases (p ∷ xs) zero (suc w) y x h = inr h
set_cases (p ∷ xs) (suc v) zero y x h = inr h
set_cases {A} (p ∷ xs) (suc v) (suc w) y x h = ⊎_elim (λ (e : (w ≡ v) × (x ≡ y)). inl (ap suc e.0, e.1)) (λ (k : slice_get xs w ≡ Some x). inr k) (set_cases xs v w y x h)

pub take_set : {A : Type 0} (xs : List A) (i : ℕ) (x : A) → i < length xs → take (suc i) (set xs i x) ≡ take i xs ++ x ∷ []
take_set [] i x h = absurd (omega arith)
take_set (y ∷ xs) zero x h = refl
take_set (y ∷ xs) (suc i) x h = ap (λ (zs : List _). y ∷ zs) (take_set xs i x (omega arith))

-- ---- lists of equal entries, and of numbers that follow each other
pub slice_get-replicate : {A : Type 0} (n e : ℕ) (x : A) → e < n → slice_get (replicate n x) e ≡ Some x
slice_get-replicate zero e x h = absurd (omega arith)
slice_get-replicate (suc n) zero x h = refl
slice_get-replicate (suc n) (suc e) x h = slice_get-replicate n e x (omega arith)

pub slice_get-range : (a n i : ℕ) → i < n → slice_get (range_with_len a n) i ≡ Some (a + i)
slice_get-range a n i h = slice_get-get_or (range_with_len a n) i 0 (omega (arith, h, length-range_with_len a n)) ∙ ap Some (get_or-range_with_len a n i 0 h)

pub slice_get-below : (n i : ℕ) → i < n → slice_get (range_with_len 0 n) i ≡ Some i
slice_get-below n i h = slice_get-range 0 n i h ∙ ap (λ (k : ℕ). Some k) (let z : 0 + i ≡ i = omega arith in z)

-- ---- one more entry at the end
pub all_push : {A : Type 0} (P : A → Type 0) (xs : List A) (x : A) → AllByRecursion P xs → P x → AllByRecursion P (xs ++ x ∷ [])
all_push P [] x h k = (k, tt)
all_push P (y ∷ xs) x h k = (h.0, all_push P xs x h.1 k)
