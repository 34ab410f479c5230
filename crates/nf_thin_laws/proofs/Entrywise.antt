-- Two lists entry by entry.
use Rattle.std.proofs.Common.{◌≡◌, ℕ, zero, suc, List, [], ◌∷◌, length, refl, sym, ap, arith, Some, slice_get}
use Rattle.nf_thin_laws.proofs.Common.{none-some, same_Some, entrywise}

pub entrywise-length : {A B C : Type 0} (f : A → B → C) (xs : List A) (ys : List B) → length xs ≡ length ys → length (entrywise f xs ys) ≡ length ys
entrywise-length f [] [] h = refl
entrywise-length f [] (y ∷ ys) h = absurd (omega arith)
entrywise-length f (x ∷ xs) [] h = absurd (omega arith)
entrywise-length f (x ∷ xs) (y ∷ ys) h = ap suc (entrywise-length f xs ys (omega arith))

pub entrywise-at : {A B C : Type 0} (f : A → B → C) (xs : List A) (ys : List B) (e : ℕ) (x : A) (y : B) → slice_get xs e ≡ Some x → slice_get ys e ≡ Some y
    → slice_get (entrywise f xs ys) e ≡ Some (f x y)
entrywise-at f [] ys e x y h k = absurd (none-some x h)
entrywise-at f (a ∷ xs) [] e x y h k = absurd (none-some y k)
entrywise-at f (a ∷ xs) (b ∷ ys) zero x y h k = λ i. Some (f (same_Some a x h i) (same_Some b y k i))
entrywise-at f (a ∷ xs) (b ∷ ys) (suc e) x y h k = entrywise-at f xs ys e x y h k

-- An entry of the result comes from the entries of both lists.
abbrev pub Pairs : {A B C : Type 0} → (A → B → C) → List A → List B → ℕ → C → Type 0
Pairs {A = A} {B = B} f xs ys e z = (x : A) × (y : B) × (slice_get xs e ≡ Some x) × (slice_get ys e ≡ Some y) × (z ≡ f x y)

pub entrywise-parts : {A B C : Type 0} (f : A → B → C) (xs : List A) (ys : List B) (e : ℕ) (z : C) → slice_get (entrywise f xs ys) e ≡ Some z → Pairs f xs ys e z
entrywise-parts f [] [] e z h = absurd (none-some z h)
entrywise-parts f [] (b ∷ ys) e z h = absurd (none-some z h)
entrywise-parts f (a ∷ xs) [] e z h = absurd (none-some z h)
entrywise-parts f (a ∷ xs) (b ∷ ys) zero z h = (a, b, refl, refl, sym (same_Some (f a b) z h))
entrywise-parts f (a ∷ xs) (b ∷ ys) (suc e) z h = entrywise-parts f xs ys e z h

-- A function that takes back what another did to each entry takes it back in the list.
pub entrywise-back : {A B C : Type 0} (f : A → C → B) (g : A → B → C) (xs : List A) (ys : List B) → length xs ≡ length ys
    → ((e : ℕ) (x : A) (y : B) → slice_get xs e ≡ Some x → slice_get ys e ≡ Some y → f x (g x y) ≡ y) → entrywise f xs (entrywise g xs ys) ≡ ys
entrywise-back f g [] [] n h = refl
entrywise-back f g [] (y ∷ ys) n h = absurd (omega arith)
entrywise-back f g (x ∷ xs) [] n h = absurd (omega arith)
entrywise-back f g (x ∷ xs) (y ∷ ys) n h = λ i. h 0 x y refl refl i ∷ entrywise-back f g xs ys (omega arith) (λ e a b p q. h (suc e) a b p q) i
