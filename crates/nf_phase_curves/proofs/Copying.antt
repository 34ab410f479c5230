-- A curve that is copied point by point.
use Rattle.std.proofs.Common.{◌≡◌, ℕ, zero, suc, ◌<◌, List, [], ◌∷◌, take, subst, arith, Some, slice_get}
use Rattle.nf_phase_curves.proofs.Common.{none-some, same_Some, ◌<ℚ◌, Point, TimesRise, IsCurve, last_time}

-- ---- the first points
before_next : (p : Point) (rest : List Point) (i : ℕ) (q : Point) → TimesRise (p ∷ rest) → slice_get (p ∷ rest) (suc i) ≡ Some q → last_time (take (suc i) (p ∷ rest)) <ℚ q.0
before_next p [] i q rise e = absurd (none-some q e)
before_next p (x ∷ xs) zero q rise e = subst (λ (z : Point). p.0 <ℚ z.0) (same_Some x q e) rise.0
before_next p (x ∷ xs) (suc i) q rise e = before_next x xs i q rise.1 e

-- a point is later than those before it
pub later_than_taken : (points : List Point) (i : ℕ) (q : Point) → IsCurve points → 0 < i → slice_get points i ≡ Some q → last_time (take i points) <ℚ q.0
later_than_taken [] i q curve some e = absurd curve
later_than_taken (p ∷ rest) zero q curve some e = absurd (omega arith)
later_than_taken (p ∷ rest) (suc i) q curve some e = before_next p rest i q curve.1 e
