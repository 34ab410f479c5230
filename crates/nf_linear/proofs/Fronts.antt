-- Lists of which a front is done: one more place, and computations that stop there or go on.
use Rattle.std.proofs.Common.{◌≡◌, ℕ, zero, suc, ◌<◌, ◌≤◌, List, [], ◌∷◌, ◌++◌, length, set, take, drop, refl, sym, ap, append_assoc, arith, Result, Ok}
use Rattle.std.proofs.Common.{Err}
use Rattle.nf_linear.proofs.Common.{ℚ, Halt, Part, PassedAt, Checked, Stops, at_part, seen_passed_at, ◌>>=◌, with_front}

-- ---- one place of a list
module _ {A : Type 0} where
  pub take_set : (xs : List A) (k : ℕ) (y : A) → k < length xs → take (suc k) (set xs k y) ≡ take k xs ++ y ∷ []
  take_set [] k y b = absurd (omega arith)
  take_set (x ∷ xs) zero y b = refl
  take_set (x ∷ xs) (suc k) y b = ap (λ (l : List A). x ∷ l) (take_set xs k y (omega arith))

  pub drop_set : (xs : List A) (k : ℕ) (y : A) → drop (suc k) (set xs k y) ≡ drop (suc k) xs
  drop_set [] k y = refl
  drop_set (x ∷ xs) zero y = refl
  drop_set (x ∷ xs) (suc k) y = drop_set xs k y

  pub take_whole : (xs : List A) (k : ℕ) → length xs ≤ k → take k xs ++ [] ≡ xs
  take_whole [] zero b = refl
  take_whole [] (suc k) b = refl
  take_whole (x ∷ xs) zero b = absurd (omega arith)
  take_whole (x ∷ xs) (suc k) b = ap (λ (l : List A). x ∷ l) (take_whole xs k (omega arith))

-- ---- values that stand before what comes of the rest
module _ {A : Type 0} where
  pub first_before : (r : Checked (List A)) → with_front [] r ≡ r
  first_before (Ok ys) = refl
  first_before (Err p) = refl

  pub one_before : (r : Checked (List A)) (front : List A) (y : A) → with_front front (r >>= λ ys. Ok (y ∷ ys)) ≡ with_front (front ++ y ∷ []) r
  one_before (Ok ys) front y = ap Ok (sym (append_assoc front (y ∷ []) ys))
  one_before (Err p) front y = refl

-- ---- what stops, stops with what would come after it
module _ {A B : Type 0} (part : Part) where
  moved : (p q : PassedAt ℚ) → ◌≡◌ {A = Result A (PassedAt ℚ)} (Err p) (Err q) → ◌≡◌ {A = Result B (PassedAt ℚ)} (Err p) (Err q)
  moved p q e = let f = e in cc

  pub stopped : (r : Checked A) (f : A → Checked B) (p : PassedAt ℚ) → at_part part r ≡ Err p → at_part part (r >>= f) ≡ Err p
  stopped (Ok x) f p e = absurd (cc)
  stopped (Err q) f p e = moved _ p e

  pub stops : {S : Type 0} (means : S → ℚ) (h : Halt S) (r : Checked A) (f : A → Checked B) → Stops means h (at_part part r) → Stops means h (at_part part (r >>= f))
  stops means (Halt.Passed p) r f e = stopped r f (seen_passed_at means p) e
  stops means Halt.Memory r f e = tt

pub stopped_before : {A : Type 0} (part : Part) (r : Checked (List A)) (front : List A) (p : PassedAt ℚ) → at_part part r ≡ Err p → at_part part (with_front front r) ≡ Err p
stopped_before part (Ok xs) front p e = absurd (cc)
stopped_before part (Err q) front p e = e
