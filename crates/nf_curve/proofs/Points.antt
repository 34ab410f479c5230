-- A point after the last one.
use Rattle.std.proofs.Common.{◌≡◌, ℕ, zero, suc, ◌+◌, ◌-◌, ◌<◌, true, List, [], ◌∷◌, ◌++◌, length, ⊎_elim, sym, ap, subst, ◌∙◌, arith, Some, slice_get}
use Rattle.nf_curve.proofs.Common.{none-some, same_Some, ℚ, 0ℚ, ◌≤ℚ◌, ◌<ℚ◌, cmp_ℚ, ≤ℚ_antisymm, lt_or_le_ℚ, TimesRise, IsCurve, Grown, last_time}
use Rattle.std.specs.Ordering.{MatchOrdering, is_lt}
use Rattle.std.specs.declared.cmp.Ordering.{Ordering}
use Rattle.std.specs.declared.cmp.Ordering.TheVariants.{Less, Equal, Greater}
use Rattle.nf_frac.specs.Total.{ranks_ℚ}

TimesRise-append : (x : ℚ × ℚ) (rest : List (ℚ × ℚ)) (p : ℚ × ℚ) → TimesRise (x ∷ rest) → last_time (x ∷ rest) <ℚ p.0 → TimesRise (x ∷ rest ++ p ∷ [])
TimesRise-append x [] p rise later = (later, tt)
TimesRise-append x (y ∷ rest) p rise later = (rise.0, TimesRise-append y rest p rise.1 later)

-- a curve with a point after its last one is a curve
pub IsCurve-append : (points : List (ℚ × ℚ)) (p : ℚ × ℚ) → IsCurve points → last_time points <ℚ p.0 → IsCurve (points ++ p ∷ [])
IsCurve-append [] p curve later = absurd curve
IsCurve-append (x ∷ rest) p curve later = (curve.0, TimesRise-append x rest p curve.1 later)

-- the last point has the last time
pub last_time-last : (points : List (ℚ × ℚ)) (k : ℕ) (p : ℚ × ℚ) → slice_get points k ≡ Some p → length points ≡ k + 1 → last_time points ≡ p.0
last_time-last [] k p h e = absurd (none-some p h)
last_time-last (x ∷ []) zero p h e = ap (λ (q : ℚ × ℚ). q.0) (same_Some x p h)
last_time-last (x ∷ []) (suc k) p h e = absurd (none-some p h)
last_time-last (x ∷ y ∷ rest) zero p h e = absurd (omega arith)
last_time-last (x ∷ y ∷ rest) (suc k) p h e = last_time-last (y ∷ rest) k p h (omega arith)

-- a point after the last one, as a test finds it
pub after_last : (points : List (ℚ × ℚ)) (count : ℕ) (p : ℚ × ℚ) (time : ℚ) → slice_get points (count - 1) ≡ Some p → count ≡ length points → 0 < count
    → is_lt (cmp_ℚ p.0 time) ≡ true → last_time points <ℚ time
after_last points count p time h e some t =
    subst (λ (z : ℚ). z <ℚ time) (sym (last_time-last points (count - 1) p h (omega arith))) (below (cmp_ℚ p.0 time) (ranks_ℚ p.0 time) t)
  where
    below : (r : Ordering) → MatchOrdering r (p.0 <ℚ time) (p.0 ≡ time) (time <ℚ p.0) → is_lt r ≡ true → p.0 <ℚ time
    below Less h t = h
    below Equal h t = cc
    below Greater h t = cc

-- a curve has a point
pub points_there : (points : List (ℚ × ℚ)) → IsCurve points → 0 < length points
points_there [] curve = absurd curve
points_there (p ∷ rest) curve = omega arith

-- ---- what is inside a curve
pub points_seen : (points inside : List (ℚ × ℚ)) (spare : ℕ) (seen : Grown) → points ≡ inside → record { points = inside; spare = spare } ≡ seen → points ≡ seen.points
points_seen points inside spare seen e v = e ∙ ap (λ (g : Grown). g.points) v

pub curve_seen : (inside : List (ℚ × ℚ)) (spare : ℕ) (seen : Grown) → IsCurve inside → record { points = inside; spare = spare } ≡ seen → IsCurve seen.points
curve_seen inside spare seen curve v = subst (λ (g : Grown). IsCurve g.points) v curve

pub curve_read : (points inside : List (ℚ × ℚ)) → points ≡ inside → IsCurve inside → IsCurve points
curve_read points inside e curve = subst IsCurve (sym e) curve

-- a number that is at least 0 and isn't 0 is above 0
pub positive : (x : ℚ) → 0ℚ ≤ℚ x → (x ≡ 0ℚ → ⊥) → 0ℚ <ℚ x
positive x h n = ⊎_elim (λ (l : 0ℚ <ℚ x). l) (λ (l : x ≤ℚ 0ℚ). absurd (n (≤ℚ_antisymm x 0ℚ l h))) (lt_or_le_ℚ 0ℚ x)
