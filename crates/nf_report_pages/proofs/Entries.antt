-- What holds of each entry of a list, from what holds of a prefix.
use Rattle.std.proofs.Common.{◌≡◌, ℕ, zero, suc, ◌+◌, ◌<◌, ◌≤◌, List, [], ◌∷◌, length, map, take, get_or, refl, subst, add-one, Some, slice_get}
use Rattle.nf_report_pages.proofs.Common.{AllByRecursion, take_all}
use Rattle.std.proofs.lemmas.Option.{slice_get_read}

module _ {A : Type 0} (P : A → Type 0) where
  next_suc : (xs : List A) (i : ℕ) (x : A) → slice_get xs i ≡ Some x → P x → AllByRecursion P (take i xs) → AllByRecursion P (take (suc i) xs)
  next_suc [] i x e h all = tt
  next_suc (y ∷ ys) zero x e h all = ((let same : x ≡ y = cc in subst P same h), tt)
  next_suc (y ∷ ys) (suc i) x e h all = (all.0, next_suc ys i x e h all.1)

  -- one entry more, by its number
  pub one_more : (xs : List A) (i : ℕ) (x : A) → slice_get xs i ≡ Some x → P x → AllByRecursion P (take i xs) → AllByRecursion P (take (i + 1) xs)
  one_more xs i x e h all = rw add-one (next_suc xs i x e h all)

  -- one entry more, as a loop over the list has it
  pub one_read : (xs : List A) (i : ℕ) (x : A) → i < length xs → x ≡ get_or xs i x → P x → AllByRecursion P (take i xs) → AllByRecursion P (take (i + 1) xs)
  one_read xs i x below is h all = one_more xs i x (slice_get_read xs _ i x refl below is) h all

  -- as many as there are
  pub up_to_end : (xs : List A) (i : ℕ) → length xs ≤ i → AllByRecursion P (take i xs) → AllByRecursion P xs
  up_to_end xs i h all = subst (λ (entries : List A). AllByRecursion P entries) (take_all i xs h) all

-- of each image, from what holds of each entry
pub all_image : {A B : Type 0} (P : A → Type 0) (Q : B → Type 0) (f : B → A) → ((y : B) → Q y → P (f y)) → (ys : List B) → AllByRecursion Q ys → AllByRecursion P (map f ys)
all_image P Q f h [] all = tt
all_image P Q f h (y ∷ ys) all = (h y all.0, all_image P Q f h ys all.1)
