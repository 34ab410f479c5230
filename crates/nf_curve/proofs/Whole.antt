-- A curve that ends at the time of its cut is its own cut.
use Rattle.std.proofs.Common.{◌≡◌, ℕ, zero, suc, ◌+◌, ◌-◌, ◌<◌, ◌≤◌, List, [], ◌∷◌, ◌++◌, length, Bool, refl, sym, ap, ◌∙◌, arith, Some, None, slice_get}
use Rattle.std.proofs.Common.{Ok, if◌then◌else◌}
use Rattle.nf_curve.proofs.Common.{none-some, same_Some, slice_get_past, ℚ, 0ℚ, ◌≤ℚ◌, ◌<ℚ◌, not_less_itself, test_of_less, Passing, Checked, ◌>>=◌, Point}
use Rattle.nf_curve.proofs.Common.{TimesRise, IsCurve, points_before, checked_value, rise_rest, count_until}
use Rattle.nf_curve_def.specs.Values.{checked_cut}
use Rattle.nf_curve.proofs.Placing.{place_within, rise-pairs, not-yet, value-at, curve-rises}

-- the points before the last one's time, and the last one, are all
before_end : (points : List Point) (n : ℕ) (p : Point) → TimesRise points → length points ≡ suc n → slice_get points n ≡ Some p → points_before p.0 points ++ p ∷ [] ≡ points
before_end [] n p r e g = absurd (none-some p g)
before_end (q ∷ []) zero p r e g =
    let same : q ≡ p = same_Some q p g in
    ap (λ (x : Point). points_before x.0 (q ∷ []) ++ x ∷ []) (sym same) ∙ ap (λ (b : Bool). (if b then q ∷ [] else []) ++ q ∷ []) (not_less_itself q.0)
before_end (q ∷ []) (suc n) p r e g = absurd (omega (arith, e))
before_end (q ∷ x ∷ rest) zero p r e g = absurd (omega (arith, e))
before_end (q ∷ x ∷ rest) (suc n) p r e g =
    let earlier : q.0 <ℚ p.0 = rise-pairs (q ∷ x ∷ rest) 0 (suc n) q p r refl g (omega arith) in
    let fewer : length (x ∷ rest) ≡ suc n = omega (arith, e) in
    ap (λ (b : Bool). (if b then q ∷ points_before p.0 (x ∷ rest) else []) ++ p ∷ []) (test_of_less q.0 p.0 earlier)
    ∙ ap (λ (l : List Point). q ∷ l) (before_end (x ∷ rest) n p (rise_rest q (x ∷ rest) r) fewer g)

pub whole_cut : (passes : Passing) (points : List Point) (n : ℕ) (p : Point) → IsCurve points → length points ≡ suc n → slice_get points n ≡ Some p → 0ℚ ≤ℚ p.0
    → checked_cut passes points p.0 ≡ Ok points
unfolding checked_cut
whole_cut passes points n p c e g h =
    let rises : TimesRise points = curve-rises points c in
    let late : n < count_until p.0 points = not-yet p.0 points n p rises g (not_less_itself p.0) in
    let within : count_until p.0 points ≤ length points = place_within p.0 points in
    let place : suc n ≡ count_until p.0 points = omega (arith, late, within, e) in
    let past : slice_get points (suc n) ≡ None = slice_get_past points (suc n) (omega (arith, e)) in
    let back : suc n - 1 ≡ n = omega arith in
    let value : checked_value passes points p.0 ≡ Ok p.1 = value-at passes p.0 points (suc n) p None c h place (ap (slice_get points) back ∙ g) past in
    ap (λ (v : Checked ℚ). v >>= λ y. Ok (points_before p.0 points ++ (p.0, y) ∷ [])) value ∙ ap Ok (before_end points n p rises e g)
