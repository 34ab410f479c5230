-- Lists of the same elements in the same strict order are the same list.
use Rattle.std.proofs.Common.{◌≡◌, ℕ, zero, suc, ◌<◌, List, [], ◌∷◌, refl, sym, ap, ◌∙◌, subst, arith, ◌⊎◌, Some, slice_get, inl, inr}
use Rattle.nf_thin_laws.proofs.Common.{none-some, same_Some}

module _ {A : Type 0} where
  -- The list contains x.
  abbrev pub StandsIn : List A → A → Type 0
  StandsIn xs x = (i : ℕ) × (slice_get xs i ≡ Some x)

  abbrev pub InOrder : (A → A → Type 0) → List A → Type 0
  InOrder R xs = (i j : ℕ) (x y : A) → i < j → slice_get xs i ≡ Some x → slice_get xs j ≡ Some y → R x y

  InOrder-tail : (R : A → A → Type 0) (x : A) (xs : List A) → InOrder R (x ∷ xs) → InOrder R xs
  InOrder-tail R x xs h i j a b before at_a at_b = h (suc i) (suc j) a b (omega arith) at_a at_b

  head_before : (R : A → A → Type 0) (x y : A) (xs : List A) (j : ℕ) → InOrder R (x ∷ xs) → slice_get xs j ≡ Some y → R x y
  head_before R x y xs j h at = h 0 (suc j) x y (omega arith) refl at

  -- An element of a nonempty list is its head, or in its tail.
  in_tail : (x y : A) (xs : List A) (i : ℕ) → slice_get (x ∷ xs) i ≡ Some y → (x ≡ y) ⊎ StandsIn xs y
  in_tail x y xs zero at = inl (same_Some x y at)
  in_tail x y xs (suc i) at = inr (i, at)

module _ {A : Type 0} (R : A → A → Type 0) (asymmetric : (x y : A) → R x y → R y x → ⊥) where
  heads_at : (x y : A) (xs ys : List A) → InOrder R (x ∷ xs) → InOrder R (y ∷ ys) → (x ≡ y) ⊎ StandsIn xs y → (y ≡ x) ⊎ StandsIn ys x → x ≡ y
  heads_at x y xs ys order_x order_y (inl e) other = e
  heads_at x y xs ys order_x order_y (inr y_later) (inl e) = sym e
  heads_at x y xs ys order_x order_y (inr y_later) (inr x_later) =
      absurd (asymmetric x y (head_before R x y xs y_later.0 order_x y_later.1) (head_before R y x ys x_later.0 order_y x_later.1))

  -- An element of the tail after the same head is no head, so the other tail contains it.
  stays : (x y z : A) (xs : List A) (i : ℕ) (ys : List A) → InOrder R (x ∷ xs) → x ≡ y → slice_get xs i ≡ Some z → (y ≡ z) ⊎ StandsIn ys z → StandsIn ys z
  stays x y z xs i ys order_x e at (inr later) = later
  stays x y z xs i ys order_x e at (inl f) =
      let itself : R x x = subst (λ (w : A). R x w) (sym f ∙ sym e) (head_before R x z xs i order_x at) in absurd (asymmetric x x itself itself)

  pub same_list : (xs ys : List A) → InOrder R xs → InOrder R ys → ((x : A) → StandsIn xs x → StandsIn ys x) → ((y : A) → StandsIn ys y → StandsIn xs y) → xs ≡ ys
  same_list [] [] order_x order_y into back = refl
  same_list [] (y ∷ ys) order_x order_y into back = absurd (none-some y ((back y (0, refl)).1))
  same_list (x ∷ xs) [] order_x order_y into back = absurd (none-some x ((into x (0, refl)).1))
  same_list (x ∷ xs) (y ∷ ys) order_x order_y into back =
      let y_in = back y (0, refl) in
      let x_in = into x (0, refl) in
      let e : x ≡ y = heads_at x y xs ys order_x order_y (in_tail x y xs y_in.0 y_in.1) (in_tail y x ys x_in.0 x_in.1) in
      let rest : xs ≡ ys = same_list xs ys (InOrder-tail R x xs order_x) (InOrder-tail R y ys order_y)
      (λ z h. let there = into z (suc h.0, h.1) in stays x y z xs h.0 ys order_x e h.1 (in_tail y z ys there.0 there.1))
      (λ z h. let there = back z (suc h.0, h.1) in stays y x z ys h.0 xs order_y (sym e) h.1 (in_tail x z xs there.0 there.1)) in
      ap (λ (w : A). w ∷ xs) e ∙ ap (λ (ws : List A). y ∷ ws) rest
