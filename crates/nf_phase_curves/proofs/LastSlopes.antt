-- The slope of the last piece of a curve, and the curve extended with it.
use Rattle.std.proofs.Common.{◌≡◌, ℕ, zero, suc, ◌+◌, ◌<◌, ◌≤◌, List, [], ◌∷◌, ◌++◌, length, take, refl, sym, ap, subst, ◌∙◌, arith, ◌↔◌, Option, Some}
use Rattle.std.proofs.Common.{None, IsSome, slice_get, Ok}
use Rattle.nf_phase_curves.proofs.Common.{option_to_list, none-some, same_Some, ℚ, ◌<ℚ◌, Passing, Checked, ◌>>=◌, Point, TimesRise, IsCurve, AreSlopes}
use Rattle.nf_phase_curves.proofs.Common.{checked_slope, last_slope, AreBefore}
use Rattle.nf_model_laws.proofs.Curves.{IsCurve-rises}

-- ---- the last two points
rise_at : (points : List Point) (k : ℕ) (p q : Point) → TimesRise points → slice_get points k ≡ Some p → slice_get points (suc k) ≡ Some q → p.0 <ℚ q.0
rise_at [] k p q r h i = absurd (none-some p h)
rise_at (x ∷ []) zero p q r h i = absurd (none-some q i)
rise_at (x ∷ []) (suc k) p q r h i = absurd (none-some p h)
rise_at (x ∷ y ∷ rest) zero p q r h i =
    subst (λ (z : Point). z.0 <ℚ q.0) (same_Some x p h) (subst (λ (z : Point). x.0 <ℚ z.0) (same_Some y q i) r.0)
rise_at (x ∷ y ∷ rest) (suc k) p q r h i = rise_at (y ∷ rest) k p q r.1 h i

next_at : (points : List Point) (k j : ℕ) (q : Point) → j ≡ k + 1 → slice_get points j ≡ Some q → slice_get points (suc k) ≡ Some q
next_at points k j q e h = let next : j ≡ suc k = omega arith in subst (λ (i : ℕ). slice_get points i ≡ Some q) next h

pub rises_there : (points : List Point) (k j : ℕ) (p q : Point) → IsCurve points → slice_get points k ≡ Some p → slice_get points j ≡ Some q → j ≡ k + 1 → p.0 <ℚ q.0
rises_there points k j p q c h i e = rise_at points k p q (IsCurve-rises points c) h (next_at points k j q e i)

module _ (passes : Passing) where
  pub few_points : (points : List Point) → length points < 2 → last_slope passes points ≡ Ok None
  few_points [] h = refl
  few_points (p ∷ []) h = refl
  few_points (p ∷ q ∷ rest) h = absurd (omega arith)

  abbrev slope_of : Point → Point → Checked (Option ℚ)
  slope_of p q = checked_slope passes p q >>= λ k. Ok (Some k)

  slope_at : (points : List Point) (k : ℕ) (p q : Point) → slice_get points k ≡ Some p → slice_get points (suc k) ≡ Some q → length points ≡ k + 2
      → last_slope passes points ≡ slope_of p q
  slope_at [] k p q h i e = absurd (omega arith)
  slope_at (x ∷ []) k p q h i e = absurd (omega arith)
  slope_at (x ∷ y ∷ []) zero p q h i e = ap (λ (z : Point). slope_of z y) (same_Some x p h) ∙ ap (slope_of p) (same_Some y q i)
  slope_at (x ∷ y ∷ []) (suc k) p q h i e = absurd (omega arith)
  slope_at (x ∷ y ∷ z ∷ rest) zero p q h i e = absurd (omega arith)
  slope_at (x ∷ y ∷ z ∷ rest) (suc k) p q h i e = slope_at (y ∷ z ∷ rest) k p q h i (omega arith)

  pub last_slope_there : (points : List Point) (k j : ℕ) (p q : Point) → slice_get points k ≡ Some p → slice_get points j ≡ Some q → j ≡ k + 1
      → length points ≡ k + 2 → last_slope passes points ≡ slope_of p q
  last_slope_there points k j p q h i e count = slope_at points k p q h (next_at points k j q e i) count

-- ---- the last point after the others
pub taken_with_last : (points : List Point) (k : ℕ) (p : Point) → slice_get points k ≡ Some p → length points ≡ k + 1 → take k points ++ p ∷ [] ≡ points
taken_with_last [] k p h e = absurd (omega arith)
taken_with_last (x ∷ []) zero p h e = ap (λ (q : Point). q ∷ []) (sym (same_Some x p h))
taken_with_last (x ∷ []) (suc k) p h e = absurd (omega arith)
taken_with_last (x ∷ y ∷ rest) zero p h e = absurd (omega arith)
taken_with_last (x ∷ y ∷ rest) (suc k) p h e = ap (λ (l : List Point). x ∷ l) (taken_with_last (y ∷ rest) k p h (omega arith))

-- ---- rates
rate_count : (points : List Point) (rates : List ℚ) → AreSlopes points rates → length points ≡ length rates + 1
rate_count [] rates h = absurd h
rate_count (p ∷ []) [] h = refl
rate_count (p ∷ []) (x ∷ rates) h = absurd h
rate_count (p ∷ q ∷ rest) [] h = absurd h
rate_count (p ∷ q ∷ rest) (x ∷ rates) h = let k = rate_count (q ∷ rest) rates h.1 in omega arith

-- A curve with a rate has two points.
pub two_points : (points : List Point) (rates before : List ℚ) (last : Option ℚ) → AreSlopes points rates → rates ≡ before ++ option_to_list last → IsSome last → 2 ≤ length points
two_points points rates before None h e some = absurd (cc)
two_points points rates before (Some r) h e some =
    let n = rate_count points rates h in
    let m : length rates ≡ length before + 1 = ap (λ (l : List ℚ). length l) e ∙ pushed before in
    omega arith
  where
    pushed : (before : List ℚ) → length (before ++ r ∷ []) ≡ length before + 1
    pushed [] = refl
    pushed (x ∷ before) = let k = pushed before in omega arith

-- Without a last rate there is no earlier one.
pub none_before : (rates before : List ℚ) (last : Option ℚ) (count : ℕ) → length rates ≡ count → rates ≡ before ++ option_to_list last → IsSome last ↔ (0 < count) → AreBefore before last
none_before rates before (Some r) count n e v = tt
none_before rates [] None count n e v = refl
none_before rates (x ∷ before) None count n e v = absurd (no (v.1 some))
  where
    some : 0 < count
    some = let m : length rates ≡ length (x ∷ before ++ []) = ap (λ (l : List ℚ). length l) e in omega arith

    no : IsSome {T = ℚ} None → ⊥
    no h = cc
