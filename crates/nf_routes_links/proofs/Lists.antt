-- Lists that end with one more.
use Rattle.std.proofs.Common.{◌≡◌, ℕ, zero, suc, ◌+◌, ◌<◌, List, [], ◌∷◌, ◌++◌, length, take, map, refl, sym, ap, ◌∙◌, arith, Some, slice_get}
use Rattle.nf_routes_links.proofs.Common.{map-append, Passing, Point, last_entry, but_last}

pub last_push : (sent : List (List Point)) (x : List Point) → last_entry (sent ++ x ∷ []) ≡ x
last_push [] x = refl
last_push (y ∷ []) x = refl
last_push (y ∷ z ∷ rest) x = last_push (z ∷ rest) x

pub but_last-push : (passes : Passing) (sent : List (List Point)) (x : List Point) → but_last passes (sent ++ x ∷ []) ≡ sent
but_last-push passes [] x = refl
but_last-push passes (y ∷ []) x = refl
but_last-push passes (y ∷ z ∷ rest) x = ap (λ (l : List (List Point)). y ∷ l) (but_last-push passes (z ∷ rest) x)

pub last_at : (sent : List (List Point)) (k : ℕ) (x : List Point) → slice_get sent k ≡ Some x → length sent ≡ k + 1 → last_entry sent ≡ x
last_at [] k x h e = absurd (omega arith)
last_at (y ∷ []) zero x h e = let same : y ≡ x = cc in same
last_at (y ∷ []) (suc k) x h e = absurd (omega arith)
last_at (y ∷ z ∷ rest) zero x h e = absurd (omega arith)
last_at (y ∷ z ∷ rest) (suc k) x h e = last_at (z ∷ rest) k x h (omega arith)

-- the same for each of one more
same_more : {A B : Type 0} (y : B) (xs : List A) (i : ℕ) → i < length xs → map (λ (_ : A). y) (take i xs) ++ y ∷ [] ≡ map (λ (_ : A). y) (take (suc i) xs)
same_more y [] i h = absurd (omega arith)
same_more y (x ∷ xs) zero h = refl
same_more {A} {B} y (x ∷ xs) (suc i) h = ap (λ (l : List B). y ∷ l) (same_more y xs i (omega arith))

pub same_next : {A B : Type 0} (y : B) (xs : List A) (i : ℕ) → i < length xs → map (λ (_ : A). y) (take i xs) ++ y ∷ [] ≡ map (λ (_ : A). y) (take (i + 1) xs)
same_next {A} y xs i h = same_more y xs i h ∙ ap (λ (k : ℕ). map (λ (_ : A). y) (take k xs)) (let n : suc i ≡ i + 1 = omega arith in n)

-- the same for each of what one more stands for
same_of-more : {A B C : Type 0} (f : A → C) (y : B) (xs : List A) (i : ℕ) → i < length xs
    → map (λ (_ : C). y) (map f (take i xs)) ++ y ∷ [] ≡ map (λ (_ : C). y) (map f (take (suc i) xs))
same_of-more f y [] i h = absurd (omega arith)
same_of-more f y (x ∷ xs) zero h = refl
same_of-more {A} {B} f y (x ∷ xs) (suc i) h = ap (λ (l : List B). y ∷ l) (same_of-more f y xs i (omega arith))

pub same_of-next : {A B C : Type 0} (f : A → C) (y : B) (xs : List A) (i : ℕ) → i < length xs
    → map (λ (_ : C). y) (map f (take i xs)) ++ y ∷ [] ≡ map (λ (_ : C). y) (map f (take (i + 1) xs))
same_of-next {A} {B} {C} f y xs i h = same_of-more f y xs i h ∙ ap (λ (k : ℕ). map (λ (_ : C). y) (map f (take k xs))) (let n : suc i ≡ i + 1 = omega arith in n)

-- two lists that come to the same, each with one more that does
pub same_pushed : {A B C : Type 0} (f : A → C) (g : B → C) (xs : List A) (x : A) (ys : List B) (y : B) (more : List A) → more ≡ xs ++ x ∷ []
    → map f xs ≡ map g ys → f x ≡ g y → map f more ≡ map g (ys ++ y ∷ [])
same_pushed {A} {B} {C} f g xs x ys y more pushed same here =
    ap (λ (l : List A). map f l) pushed ∙ map-append f xs (x ∷ []) ∙ ap (λ (l : List C). l ++ f x ∷ []) same ∙ ap (λ (z : C). map g ys ++ z ∷ []) here ∙ sym (map-append g ys (y ∷ []))
