-- Properties of all entries of a list, for lists that are made of others.
use Rattle.std.proofs.Common.{ℕ, zero, suc, ◌+◌, ◌<◌, List, [], ◌∷◌, length, map, flat_map, arith, take, drop, slice_get, unwrap_or}
use Rattle.nf_phase_run_laws.proofs.Common.{AllByRecursion, enumerate_from, every_append}

module _ {A : Type 0} (P : A → Type 0) where
  pub all_take : (n : ℕ) (xs : List A) → AllByRecursion P xs → AllByRecursion P (take n xs)
  all_take zero xs h = tt
  all_take (suc n) [] h = tt
  all_take (suc n) (x ∷ xs) h = (h.0, all_take n xs h.1)

  pub all_drop : (n : ℕ) (xs : List A) → AllByRecursion P xs → AllByRecursion P (drop n xs)
  all_drop zero xs h = h
  all_drop (suc n) [] h = tt
  all_drop (suc n) (x ∷ xs) h = all_drop n xs h.1

  -- an entry, or what stands for it beyond the end
  pub entry_or : (d : A) (xs : List A) (i : ℕ) → AllByRecursion P xs → P d → P (unwrap_or (slice_get xs i) d)
  entry_or d [] i h k = k
  entry_or d (x ∷ xs) zero h k = h.0
  entry_or d (x ∷ xs) (suc i) h k = entry_or d xs i h.1 k

  pub all_from : (d : A) (xs : List A) → ((i : ℕ) → i < length xs → P (unwrap_or (slice_get xs i) d)) → AllByRecursion P xs
  all_from d [] h = tt
  all_from d (x ∷ xs) h = (h 0 (omega arith), all_from d xs (λ i low. h (suc i) (omega arith)))

  pub all_numbered : (k : ℕ) (xs : List A) → AllByRecursion P xs → AllByRecursion (λ numbered. P numbered.1) (enumerate_from k xs)
  all_numbered k [] h = tt
  all_numbered k (x ∷ xs) h = (h.0, all_numbered (k + 1) xs h.1)

  module _ {B : Type 0} where
    pub all_map : (f : B → A) → ((y : B) → P (f y)) → (ys : List B) → AllByRecursion P (map f ys)
    all_map f h [] = tt
    all_map f h (y ∷ ys) = (h y, all_map f h ys)

    pub all_image : (Q : B → Type 0) (f : B → A) → ((y : B) → Q y → P (f y)) → (ys : List B) → AllByRecursion Q ys → AllByRecursion P (map f ys)
    all_image Q f h [] all = tt
    all_image Q f h (y ∷ ys) all = (h y all.0, all_image Q f h ys all.1)

    pub all_flat : (Q : B → Type 0) (f : B → List A) → ((y : B) → Q y → AllByRecursion P (f y)) → (ys : List B) → AllByRecursion Q ys → AllByRecursion P (flat_map f ys)
    all_flat Q f h [] all = tt
    all_flat Q f h (y ∷ ys) all = every_append P (f y) (flat_map f ys) (h y all.0) (all_flat Q f h ys all.1)
