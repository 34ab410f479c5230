-- Curves that are changed index by index.
use Rattle.std.proofs.Common.{◌≡◌, ◌≢◌, ℕ, zero, suc, ◌+◌, ◌<◌, ◌≤◌, List, [], ◌∷◌, ◌++◌, length, set, refl, sym, ap, subst, ◌∙◌, inl, inr, arith, ◌⊎◌}
use Rattle.std.proofs.Common.{Some, slice_get, Result, Ok, Err}
use Rattle.nf_phase_curves.proofs.Common.{option_map, same_Some, slice_get-map, slice_get_within, length-map, IfOk-from_err, Roomy, HasReserve, AllHaveRoom}
use Rattle.nf_phase_curves.proofs.Common.{all_grown}
use Rattle.std.specs.Result.{IsErr, OnOk, OnErr}
use Rattle.nf_rational_laws.proofs.Naturals.{before_or_at}

-- ---- indices of lists

module _ {A : Type 0} where
  at_set : (xs : List A) (i : ℕ) (y : A) → i < length xs → slice_get (set xs i y) i ≡ Some y
  at_set [] i y b = absurd (omega arith)
  at_set (x ∷ xs) zero y b = refl
  at_set (x ∷ xs) (suc i) y b = at_set xs i y (omega arith)

  beside_set : (xs : List A) (i k : ℕ) (y : A) → k ≢ i → slice_get (set xs i y) k ≡ slice_get xs k
  beside_set [] i k y apart = refl
  beside_set (x ∷ xs) zero zero y apart = absurd (apart refl)
  beside_set (x ∷ xs) zero (suc k) y apart = refl
  beside_set (x ∷ xs) (suc i) zero y apart = refl
  beside_set (x ∷ xs) (suc i) (suc k) y apart = beside_set xs i k y (omega arith)

  -- Lists equal at each index.
  each_same : (xs ys : List A) → length xs ≡ length ys → ((k : ℕ) → k < length xs → slice_get xs k ≡ slice_get ys k) → xs ≡ ys
  each_same [] [] count same = refl
  each_same [] (y ∷ ys) count same = absurd (omega arith)
  each_same (x ∷ xs) [] count same = absurd (omega arith)
  each_same (x ∷ xs) (y ∷ ys) count same =
      ap (λ (z : A). z ∷ xs) (same_Some x y (same 0 (omega arith))) ∙ ap (λ (l : List A). y ∷ l) (each_same xs ys (omega arith) (λ k b. same (suc k) (omega arith)))

-- ---- the grown values below an index, if a list was changed only there
module _ {A : Type 0} where
  grown_at : (several : List (Roomy A)) (k : ℕ) (r : Roomy A) → slice_get several k ≡ Some r → slice_get (all_grown several) k ≡ Some r.grown
  grown_at several k r h = slice_get-map (λ (r : Roomy A). r.grown) several k ∙ ap (option_map (λ (r : Roomy A). r.grown)) h

  pub grown_pushed : (several : List (Roomy A)) (r : Roomy A) → all_grown (several ++ r ∷ []) ≡ all_grown several ++ r.grown ∷ []
  grown_pushed [] r = refl
  grown_pushed (x ∷ several) r = ap (λ (l : List A). x.grown ∷ l) (grown_pushed several r)

  -- It is the value of another list.
  pub record GrownBelow (whole : List A) (before now : List (Roomy A)) (i : ℕ) : Type 0 where
    pub done : (k : ℕ) → k < i → slice_get (all_grown now) k ≡ slice_get whole k
    pub rest : (k : ℕ) → i ≤ k → slice_get now k ≡ slice_get before k

  -- The grown value at the next index.
  pub grown_before : (whole : List A) (before now : List (Roomy A)) (i : ℕ) (r : Roomy A) → slice_get now i ≡ Some r → GrownBelow whole before now i
      → slice_get (all_grown before) i ≡ Some r.grown
  grown_before whole before now i r at h = grown_at before i r (sym (h.rest i (omega arith)) ∙ at)

  pub none_grown : (whole : List A) (before : List (Roomy A)) → GrownBelow whole before before 0
  none_grown whole before = record { done = λ k b. absurd (omega arith); rest = λ k b. refl }

  pub one_grown : (whole : List A) (before now : List (Roomy A)) (i : ℕ) (r : Roomy A) → i < length now → slice_get whole i ≡ Some r.grown → GrownBelow whole before now i
      → GrownBelow whole before (set now i r) (i + 1)
  one_grown whole before now i r inside is h = record {
    done = λ k b. at k (before_or_at k i b);
    rest = λ k b. beside_set now i k r (omega arith) ∙ h.rest k (omega arith);
  }
    where
      at : (k : ℕ) → (k < i) ⊎ (k ≡ i) → slice_get (all_grown (set now i r)) k ≡ slice_get whole k
      at k (inl b) =
          slice_get-map (λ (r : Roomy A). r.grown) (set now i r) k ∙ ap (option_map (λ (r : Roomy A). r.grown)) (beside_set now i k r (omega arith))
          ∙ sym (slice_get-map (λ (r : Roomy A). r.grown) now k) ∙ h.done k b
      at k (inr e) = subst (λ (j : ℕ). slice_get (all_grown (set now i r)) j ≡ slice_get whole j) (sym e) (grown_at (set now i r) i r (at_set now i r inside) ∙ sym is)

  pub all_are_grown : (whole : List A) (before now : List (Roomy A)) (i : ℕ) → length whole ≡ length now → length now ≤ i → GrownBelow whole before now i → all_grown now ≡ whole
  all_are_grown whole before now i count end h =
      let long : length (all_grown now) ≡ length now = length-map now (λ (r : Roomy A). r.grown) in
      each_same (all_grown now) whole (omega arith) (λ k b. h.done k (omega arith))

  -- The value is unchanged, and memory is reserved.
  pub record RoomBelow (before now : List (Roomy A)) (i : ℕ) : Type 0 where
    pub same : all_grown now ≡ all_grown before
    pub room : (k : ℕ) (r : Roomy A) → k < i → slice_get now k ≡ Some r → HasReserve r

  pub none_roomy : (before : List (Roomy A)) → RoomBelow before before 0
  none_roomy before = record { same = refl; room = λ k r b at. absurd (omega arith) }

  pub still_grown : (before now : List (Roomy A)) (i : ℕ) (old new : Roomy A) → slice_get now i ≡ Some old → new.grown ≡ old.grown → all_grown now ≡ all_grown before
      → all_grown (set now i new) ≡ all_grown before
  still_grown before now i old new at e h = kept now i at ∙ h
    where
      kept : (now : List (Roomy A)) (i : ℕ) → slice_get now i ≡ Some old → all_grown (set now i new) ≡ all_grown now
      kept [] i at = refl
      kept (x ∷ now) zero at = ap (λ (y : A). y ∷ all_grown now) (e ∙ ap (λ (r : Roomy A). r.grown) (sym (same_Some x old at)))
      kept (x ∷ now) (suc i) at = ap (λ (l : List A). x.grown ∷ l) (kept now i at)

  pub one_roomy : (before now : List (Roomy A)) (i : ℕ) (old new : Roomy A) → i < length now → slice_get now i ≡ Some old → new.grown ≡ old.grown
      → HasReserve new → RoomBelow before now i
      → RoomBelow before (set now i new) (i + 1)
  one_roomy before now i old new inside is e room h = record {
    same = still_grown before now i old new is e h.same;
    room = λ k r b at. of_place k r at (before_or_at k i b);
  }
    where
      of_place : (k : ℕ) (r : Roomy A) → slice_get (set now i new) k ≡ Some r → (k < i) ⊎ (k ≡ i) → HasReserve r
      of_place k r at (inl b) = h.room k r b (sym (beside_set now i k new (omega arith)) ∙ at)
      of_place k r at (inr k_is) =
          subst HasReserve (same_Some new r (sym (at_set now i new inside) ∙ ap (slice_get (set now i new)) (sym k_is) ∙ at)) room

  pub all_are_roomy : (before now : List (Roomy A)) (i : ℕ) → length now ≤ i → RoomBelow before now i → AllHaveRoom now
  all_are_roomy before now i end h k r at = h.room k r (inside k r at) at
    where
      inside : (k : ℕ) (r : Roomy A) → slice_get now k ≡ Some r → k < i
      inside k r at = let b = slice_get_within now k r at in omega arith

-- A failed call returns nothing, and facts that always hold also hold then.
pub nothing_given : {T E : Type 0} (r : Result T E) (P : Type 0) → IsErr r → OnOk r P
nothing_given {E = E} (Ok x) P h = IfOk-from_err {E = E} (Ok x) (λ _. P) h
nothing_given (Err e) P h = tt

pub holds_anyway : {T E : Type 0} (r : Result T E) (P : Type 0) → P → OnErr r P
holds_anyway (Ok x) P p = tt
holds_anyway (Err e) P p = p
