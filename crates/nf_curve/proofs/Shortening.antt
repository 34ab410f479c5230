-- A curve in short form, point by point.
use Rattle.std.proofs.Common.{◌≡◌, ℕ, zero, suc, List, [], ◌∷◌, ◌++◌, length, drop, Bool, true, false, refl, sym, ap, ◌∙◌, Some, slice_get, Ok, Err}
use Rattle.std.proofs.Common.{if◌then◌else◌}
use Rattle.nf_curve.proofs.Common.{ℚ, Passing, Part, PassedAt, Checked, at_part, ◌>>=◌, with_front, Point, is_same, checked_slope, turning, checked_slopes}
use Rattle.nf_curve.proofs.Common.{drop_entry}
use Rattle.nf_curve_def.specs.Short.{checked_short}
use Rattle.nf_curve.proofs.Exits.{after_err, was_ok, front_err, front_more}

-- the points from one on that turn, with the slope before it
abbrev pub short_from : Passing → ℚ → List Point → Checked (List Point)
short_from passes before [] = Ok []
short_from passes before (q ∷ []) = Ok (q ∷ [])
short_from passes before (q ∷ r ∷ rest) = do
  after ← checked_slope passes q r
  later ← short_from passes after (r ∷ rest)
  Ok ((if is_same before after then [] else q ∷ []) ++ later)

module _ (passes : Passing) where
  front_of : (b : Bool) (q : Point) (later : List Point) → (if b then later else q ∷ later) ≡ (if b then [] else q ∷ []) ++ later
  front_of true q later = refl
  front_of false q later = refl

  short_from-slopes : (before : ℚ) (q : Point) (rest : List Point) → (checked_slopes passes (q ∷ rest) >>= λ ks. Ok (turning (q ∷ rest) (before ∷ ks)))
      ≡ short_from passes before (q ∷ rest)
  short_from-slopes before q [] = refl
  short_from-slopes before q (r ∷ rest) = by_slope (checked_slope passes q r) (λ after. short_from-slopes after r rest)
    where
      by_later : (after : ℚ) (s : Checked (List ℚ)) → (s >>= λ ks. Ok (turning (q ∷ r ∷ rest) (before ∷ after ∷ ks)))
          ≡ ((s >>= λ ks. Ok (turning (r ∷ rest) (after ∷ ks))) >>= λ later. Ok ((if is_same before after then [] else q ∷ []) ++ later))
      by_later after (Ok ks) = ap Ok (front_of (is_same before after) q (turning (r ∷ rest) (after ∷ ks)))
      by_later after (Err p) = refl

      unite : (after : ℚ) (s : Checked (List ℚ)) → ((s >>= λ ks. Ok (after ∷ ks)) >>= λ ks. Ok (turning (q ∷ r ∷ rest) (before ∷ ks)))
          ≡ (s >>= λ ks. Ok (turning (q ∷ r ∷ rest) (before ∷ after ∷ ks)))
      unite after (Ok ks) = refl
      unite after (Err p) = refl

      by_slope : (k : Checked ℚ) → ((after : ℚ) → (checked_slopes passes (r ∷ rest) >>= λ ks. Ok (turning (r ∷ rest) (after ∷ ks))) ≡ short_from passes after (r ∷ rest))
          → ((k >>= λ k. checked_slopes passes (r ∷ rest) >>= λ ks. Ok (k ∷ ks)) >>= λ ks. Ok (turning (q ∷ r ∷ rest) (before ∷ ks)))
          ≡ (k >>= λ after. short_from passes after (r ∷ rest) >>= λ later. Ok ((if is_same before after then [] else q ∷ []) ++ later))
      by_slope (Err p) rec = refl
      by_slope (Ok after) rec =
          unite after (checked_slopes passes (r ∷ rest)) ∙ by_later after (checked_slopes passes (r ∷ rest))
          ∙ ap (λ (s : Checked (List Point)). s >>= λ later. Ok ((if is_same before after then [] else q ∷ []) ++ later)) (rec after)

  -- the whole, by the first slope
  short-begins : (p q : Point) (rest : List Point) → checked_short passes
      (p ∷ q ∷ rest) ≡ (checked_slope passes p q >>= λ before. with_front (p ∷ []) (short_from passes before (q ∷ rest)))
  unfolding checked_short
  short-begins p q rest = by_slope (checked_slope passes p q)
    where
      by_slopes : (before : ℚ) (s : Checked (List ℚ)) → ((s >>= λ ks. Ok (before ∷ ks)) >>= λ ks. Ok (p ∷ turning (q ∷ rest) ks)) ≡ with_front (p ∷ [])
          (s >>= λ ks. Ok (turning (q ∷ rest) (before ∷ ks)))
      by_slopes before (Ok ks) = refl
      by_slopes before (Err e) = refl

      by_slope : (k : Checked ℚ) → ((k >>= λ k. checked_slopes passes (q ∷ rest) >>= λ ks. Ok (k ∷ ks)) >>= λ ks. Ok (p ∷ turning (q ∷ rest) ks))
          ≡ (k >>= λ before. with_front (p ∷ []) (short_from passes before (q ∷ rest)))
      by_slope (Err e) = refl
      by_slope (Ok before) = by_slopes before (checked_slopes passes (q ∷ rest)) ∙ ap (with_front (p ∷ [])) (short_from-slopes before q rest)

-- ---- the points from a number on
pub drop-two : {A : Type 0} (xs : List A) (i j : ℕ) (x y : A) → j ≡ suc i → slice_get xs i ≡ Some x → slice_get xs j ≡ Some y → drop i xs ≡ x ∷ y ∷ drop (suc j) xs
drop-two xs i j x y h e f = drop_entry xs i x e ∙ ap (λ (l : List _). x ∷ l) (ap (λ (k : ℕ). drop k xs) (sym h) ∙ drop_entry xs j y f)

-- ---- a step
module _ (passes : Passing) (part : Part) (points : List Point) where
  -- the first slope
  module _ (p q : Point) (e : slice_get points 0 ≡ Some p) (f : slice_get points 1 ≡ Some q) where
    begins : checked_short passes points ≡ (checked_slope passes p q >>= λ before. with_front (p ∷ []) (short_from passes before (drop 1 points)))
    begins =
        let two : points ≡ p ∷ q ∷ drop 2 points = drop-two points 0 1 p q refl e f in
        let one : drop 1 points ≡ q ∷ drop 2 points = drop_entry points 1 q f in
        ap (checked_short passes) two ∙ short-begins passes p q (drop 2 points)
        ∙ ap (λ (l : List Point). checked_slope passes p q >>= λ before. with_front (p ∷ []) (short_from passes before l)) (sym one)

    pub begin_stops : (a : PassedAt ℚ) → at_part part (checked_slope passes p q) ≡ Err a → at_part part (checked_short passes points) ≡ Err a
    begin_stops a g = ap (at_part part) begins ∙ after_err part (checked_slope passes p q) _ a g

    pub begin_goes : (before : ℚ) → at_part part (checked_slope passes p q) ≡ Ok before → with_front (p ∷ []) (short_from passes before (drop 1 points)) ≡ checked_short passes points
    begin_goes before g = sym (begins ∙ ap (λ (k : Checked ℚ). k >>= λ before. with_front (p ∷ []) (short_from passes before (drop 1 points)))
        (was_ok part (checked_slope passes p q) before g))

  -- from an inner point to the next
  module _ (front : List Point) (before : ℚ) (i j : ℕ) (q r : Point) (next : j ≡ suc i) (e : slice_get points i ≡ Some q) (f : slice_get points j ≡ Some r)
      (so_far : with_front front (short_from passes before (drop i points)) ≡ checked_short passes points) where
    is_step : with_front front (checked_slope passes q r >>= λ after. short_from passes after (drop j points) >>= λ later. Ok
        ((if is_same before after then [] else q ∷ []) ++ later)) ≡ checked_short passes points
    is_step = ap (with_front front) (ap (λ (l : List Point). checked_slope passes q r >>= λ after. short_from passes after l >>= λ later. Ok
        ((if is_same before after then [] else q ∷ []) ++ later)) (drop_entry points j r f)
        ∙ ap (short_from passes before) (sym (drop-two points i j q r next e f))) ∙ so_far

    pub step_stops : (a : PassedAt ℚ) → at_part part (checked_slope passes q r) ≡ Err a → at_part part (checked_short passes points) ≡ Err a
    step_stops a g = ap (at_part part) (sym is_step) ∙ front_err part front _ a (after_err part (checked_slope passes q r) _ a g)

    pub step_goes : (after : ℚ) (kept : List Point) → at_part part (checked_slope passes q r) ≡ Ok after → kept ≡ (if is_same before after then front else front ++ q ∷ [])
        → with_front kept (short_from passes after (drop j points)) ≡ checked_short passes points
    step_goes after kept g h =
        ap (λ (l : List Point). with_front l (short_from passes after (drop j points))) (h ∙ by_test (is_same before after))
        ∙ sym (front_more front (if is_same before after then [] else q ∷ []) (short_from passes after (drop j points)))
        ∙ ap (λ (k : Checked ℚ). with_front front (k >>= λ after. short_from passes after (drop j points) >>= λ later. Ok
        ((if is_same before after then [] else q ∷ []) ++ later))) (sym (was_ok part (checked_slope passes q r) after g))
        ∙ is_step
      where
        by_test : (b : Bool) → (if b then front else front ++ q ∷ []) ≡ front ++ (if b then [] else q ∷ [])
        by_test true = sym (Rattle.std.proofs.Common.append-nil front)
        by_test false = refl

  -- the last point
  pub short_ends : (front : List Point) (before : ℚ) (i : ℕ) (q : Point) → slice_get points i ≡ Some q → length points ≡ suc i
      → with_front front (short_from passes before (drop i points)) ≡ checked_short passes points
      → at_part part (checked_short passes points) ≡ Ok (front ++ q ∷ [])
  short_ends front before i q e n so_far =
      ap (at_part part) (sym so_far ∙ ap (λ (l : List Point). with_front front (short_from passes before l))
      (drop_entry points i q e ∙ ap (λ (l : List Point). q ∷ l) (none points (suc i) n)))
    where
      none : (xs : List Point) (k : ℕ) → length xs ≡ k → drop k xs ≡ []
      none [] k e = Rattle.std.proofs.Math.Seq.drop-nil k
      none (x ∷ xs) zero e = absurd (cc)
      none (x ∷ xs) (suc k) e = none xs k (let same : length xs ≡ k = omega Rattle.std.proofs.Common.arith in same)

  pub short_alone : (p : Point) → slice_get points 0 ≡ Some p → length points ≡ 1 → at_part part (checked_short passes points) ≡ Ok (p ∷ [])
  unfolding checked_short
  short_alone p e n = ap (λ (l : List Point). at_part part (checked_short passes l)) (only points n e)
    where
      only : (xs : List Point) → length xs ≡ 1 → slice_get xs 0 ≡ Some p → xs ≡ p ∷ []
      only [] n e = absurd (cc)
      only (x ∷ []) n e = let same : x ≡ p = cc in ap (λ (z : Point). z ∷ []) same
      only (x ∷ y ∷ xs) n e = absurd (omega Rattle.std.proofs.Common.arith)
