-- A curve is below another exactly where the lesser of both is that curve.
use Rattle.std.proofs.Common.{◌≡◌, ◌⊎◌, ⊎_elim, List, [], ◌∷◌, sym, subst, ◌∙◌}
use Rattle.nf_rational.specs.Rational.{ℚ}
use Rattle.nf_rational.specs.Operations.{0ℚ}
use Rattle.nf_rational.specs.Order.{◌≤ℚ◌}
use Rattle.nf_rational_laws.proofs.Order.{≤ℚ_of_lt, ≤ℚ_of_same}
use Rattle.nf_rational_laws.proofs.Extremes.{min_right, min_is_left}
use Rattle.nf_model.specs.Curve.{Within, value, IsCorner}
use Rattle.nf_curve_def.specs.Lines.{Sides}
use Rattle.nf_curve_def.specs.Meanings.{IsLeastOf, Agree, DifferFirst}
use Rattle.library_callers.specs.Below.{IsBelow}

pub below : (lower upper least : List (ℚ × ℚ)) (last : ℚ) → IsLeastOf lower upper least → Agree least lower last → IsBelow lower upper last
below lower upper least last l a time w =
    subst (λ (y : ℚ). y ≤ℚ value upper time) (sym (l.values time w.0) ∙ a time w) (min_right (value lower time) (value upper time))

-- a corner is a time of the range
corner_within : (curves : List (List (ℚ × ℚ))) (last time : ℚ) → 0ℚ ≤ℚ last → IsCorner curves last time → Within 0ℚ last time
corner_within curves last time h corner = ⊎_elim
    (λ (e : time ≡ 0ℚ). (≤ℚ_of_same 0ℚ time (sym e), subst (λ (t : ℚ). t ≤ℚ last) (sym e) h))
    (λ rest. ⊎_elim
    (λ (e : time ≡ last). (subst (λ (t : ℚ). 0ℚ ≤ℚ t) (sym e) h, ≤ℚ_of_same time last e))
    (λ inner. (≤ℚ_of_lt 0ℚ time inner.0, ≤ℚ_of_lt time last inner.1))
    rest)
    corner

pub not_below : (lower upper least : List (ℚ × ℚ)) (last : ℚ) (sides : Sides) → 0ℚ ≤ℚ last → IsLeastOf lower upper least → DifferFirst least lower last sides
    → IsBelow lower upper last → ⊥
not_below lower upper least last sides h l d b =
    let time = sides.time in
    let w = corner_within (least ∷ lower ∷ []) last time h d.corner in
    d.differ (d.left_is ∙ l.values time w.0 ∙ min_is_left (value lower time) (value upper time) (b time w) ∙ sym d.right_is)
