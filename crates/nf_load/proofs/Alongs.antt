-- Labels on the steps of a list.
use Rattle.std.proofs.Common.{◌≡◌, ℕ, zero, suc, ◌<◌, List, [], ◌∷◌, ◌++◌, length, take, map, refl, sym, subst, arith, Option, Some, None, slice_get}
use Rattle.nf_load.proofs.Common.{ℚ, Point, IsRate, flat, Along, AreKnownSlopes}

-- each label is on the step from one entry to the next, up to the last one
abbrev pub Linked : {A B : Type 0} → (B → A → A → Type 0) → List A → List B → A → Type 0
Linked On (x ∷ []) [] last = x ≡ last
Linked On (x ∷ y ∷ rest) (label ∷ labels) last = On label x y × Linked On (y ∷ rest) labels last
Linked On xs labels last = ⊥

pub linked_along : {A B : Type 0} (On : B → A → A → Type 0) (xs : List A) (labels : List B) (last : A) → Linked On xs labels last → Along On xs labels
linked_along On [] labels last h = tt
linked_along On (x ∷ []) labels last h = tt
linked_along On (x ∷ y ∷ rest) [] last h = tt
linked_along On (x ∷ y ∷ rest) (label ∷ labels) last h = (h.0, linked_along On (y ∷ rest) labels last h.1)

pub one_more : {A B : Type 0} (On : B → A → A → Type 0) (xs : List A) (labels : List B) (p q : A) (label : B) → Linked On xs labels p → On label p q
    → Linked On (xs ++ q ∷ []) (labels ++ label ∷ []) q
one_more On [] [] p q label h s = absurd h
one_more On [] (k ∷ labels) p q label h s = absurd h
one_more {A} On (x ∷ []) [] p q label h s = (subst (λ (z : A). On label z q) (sym h) s, refl)
one_more On (x ∷ []) (k ∷ labels) p q label h s = absurd h
one_more On (x ∷ y ∷ rest) [] p q label h s = absurd h
one_more On (x ∷ y ∷ rest) (k ∷ labels) p q label h s = (h.0, one_more On (y ∷ rest) labels p q label h.1 s)

pub along_none : {A B : Type 0} (On : B → A → A → Type 0) (xs : List A) → Along On xs []
along_none On [] = tt
along_none On (x ∷ []) = tt
along_none On (x ∷ y ∷ rest) = tt

-- labels of other entries
pub along_map : {A B C D : Type 0} (On : B → A → A → Type 0) (Of : D → C → C → Type 0) (f : A → C) (g : B → D)
    → ((label : B) (x y : A) → On label x y → Of (g label) (f x) (f y)) → (xs : List A) (labels : List B) → Along On xs labels
    → Along Of (map f xs) (map g labels)
along_map On Of f g step [] labels h = tt
along_map On Of f g step (x ∷ []) labels h = tt
along_map On Of f g step (x ∷ y ∷ rest) [] h = tt
along_map On Of f g step (x ∷ y ∷ rest) (label ∷ labels) h = (step label x y h.0, along_map On Of f g step (y ∷ rest) labels h.1)

pub along_of : {A B C : Type 0} (On : B → C → C → Type 0) (f : A → C) (xs : List A) (labels : List B) → Along On (map f xs) labels → Along (λ label x y. On label (f x) (f y)) xs labels
along_of On f [] labels h = tt
along_of On f (x ∷ []) labels h = tt
along_of On f (x ∷ y ∷ rest) [] h = tt
along_of On f (x ∷ y ∷ rest) (label ∷ labels) h = (h.0, along_of On f (y ∷ rest) labels h.1)

-- the label of this number
pub along_at : {A B : Type 0} (On : B → A → A → Type 0) (xs : List A) (labels : List B) (i j : ℕ) (label : B) (x y : A) → Along On xs labels
    → slice_get labels i ≡ Some label → slice_get xs i ≡ Some x → j ≡ suc i
    → slice_get xs j ≡ Some y → On label x y
along_at {A} {B} On xs labels i j label x y h e f n g = go xs labels i h e f (subst (λ (k : ℕ). slice_get xs k ≡ Some y) n g)
  where
    go : (xs : List A) (labels : List B) (i : ℕ) → Along On xs labels → slice_get labels i ≡ Some label → slice_get xs i ≡ Some x → slice_get xs (suc i) ≡ Some y → On label x y
    go xs [] i h e f g = absurd (cc)
    go [] (k ∷ labels) i h e f g = absurd (cc)
    go (a ∷ []) (k ∷ labels) zero h e f g = absurd (cc)
    go (a ∷ []) (k ∷ labels) (suc i) h e f g = absurd (cc)
    go (a ∷ b ∷ rest) (k ∷ labels) zero h e f g =
        let one : k ≡ label = cc in let two : a ≡ x = cc in let three : b ≡ y = cc in
        subst (λ (z : B). On z x y) one (subst (λ (z : A). On k z y) two (subst (λ (z : A). On k a z) three h.0))
    go (a ∷ b ∷ rest) (k ∷ labels) (suc i) h e f g = go (b ∷ rest) labels i h.1 e f g

-- the label of this number, if there is one: labels may be none
pub along_flat : {A B : Type 0} (On : Option B → A → A → Type 0) (xs : List A) (labels : List (Option B)) (i j : ℕ) (x y : A) → On None x y
    → Along On xs labels → slice_get xs i ≡ Some x → j ≡ suc i → slice_get xs j ≡ Some y
    → On (flat (slice_get labels i)) x y
along_flat {A} {B} On xs labels i j x y none h e n g = go (slice_get labels i) refl
  where
    go : (o : Option (Option B)) → slice_get labels i ≡ o → On (flat o) x y
    go None f = none
    go (Some label) f = along_at On xs labels i j label x y h f e n g

-- one more label
pub along_push : {A B : Type 0} (On : B → A → A → Type 0) (xs : List A) (labels : List B) (label : B) → Along On xs labels
    → ((x y : A) → slice_get xs (length labels) ≡ Some x → slice_get xs (suc (length labels)) ≡ Some y → On label x y) → Along On xs (labels ++ label ∷ [])
along_push On [] labels label h f = tt
along_push On (x ∷ []) labels label h f = tt
along_push On (x ∷ y ∷ rest) [] label h f = (f x y refl refl, along_none On (y ∷ rest))
along_push On (x ∷ y ∷ rest) (k ∷ labels) label h f = (h.0, along_push On (y ∷ rest) labels label h.1 (λ a b e g. f a b e g))

-- ---- labels of entries that begin as others do
abbrev pub Begins : {A : Type 0} → List A → List A → Type 0
Begins [] xs = Unit {0}
Begins (y ∷ ys) (x ∷ xs) = (y ≡ x) × Begins ys xs
Begins (y ∷ ys) [] = ⊥

pub along_begins : {A B : Type 0} (On : B → A → A → Type 0) (ys xs : List A) (labels : List B) (z : A) (n : ℕ) → Begins ys xs → n < length ys
    → Along On xs labels → Along On (ys ++ z ∷ []) (take n labels)
along_begins On [] xs labels z n b lt h = absurd (omega arith)
along_begins On (y ∷ ys) [] labels z n b lt h = absurd b
along_begins On (y ∷ []) (x ∷ xs) labels z zero b lt h = tt
along_begins On (y ∷ []) (x ∷ xs) labels z (suc n) b lt h = absurd (omega arith)
along_begins On (y ∷ v ∷ ys) (x ∷ []) labels z n b lt h = absurd b.1
along_begins On (y ∷ v ∷ ys) (x ∷ u ∷ xs) labels z zero b lt h = tt
along_begins On (y ∷ v ∷ ys) (x ∷ u ∷ xs) [] z (suc n) b lt h = tt
along_begins {A} On (y ∷ v ∷ ys) (x ∷ u ∷ xs) (k ∷ labels) z (suc n) b lt h =
    (subst (λ (a : A). On k a v) (sym b.0) (subst (λ (a : A). On k x a) (sym b.1.0) h.0), along_begins On (v ∷ ys) (u ∷ xs) labels z n b.1 (omega arith) h.1)

-- the slope of the piece from the point of this number on, if it is known
pub slope_there : (points : List Point) (slopes : List (Option ℚ)) (i : ℕ) (p q : Point) → AreKnownSlopes points slopes → slice_get points i ≡ Some p
    → slice_get points (suc i) ≡ Some q → IsRate (flat (slice_get slopes i)) p q
slope_there points [] zero p q h e f = tt
slope_there points [] (suc i) p q h e f = tt
slope_there [] (slope ∷ slopes) i p q h e f = absurd (cc)
slope_there (x ∷ []) (slope ∷ slopes) zero p q h e f = absurd (cc)
slope_there (x ∷ []) (slope ∷ slopes) (suc i) p q h e f = absurd (cc)
slope_there (x ∷ y ∷ rest) (slope ∷ slopes) zero p q h e f =
    let one : x ≡ p = cc in let two : y ≡ q = cc in
    subst (λ (z : Point). IsRate slope z q) one (subst (λ (z : Point). IsRate slope x z) two h.0)
slope_there (x ∷ y ∷ rest) (slope ∷ slopes) (suc i) p q h e f = slope_there (y ∷ rest) slopes i p q h.1 e f

pub slope_at : (points : List Point) (slopes : List (Option ℚ)) (i j : ℕ) (p q : Point) → AreKnownSlopes points slopes → slice_get points i ≡ Some p
    → slice_get points j ≡ Some q → j ≡ suc i → IsRate (flat (slice_get slopes i)) p q
slope_at points slopes i j p q h e f n = slope_there points slopes i p q h e (subst (λ (k : ℕ). slice_get points k ≡ Some q) n f)
