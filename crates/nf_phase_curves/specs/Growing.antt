-- Growing curves and their views in contracts.
use Rattle.std.specs.Prelude.{◌≡◌, ℕ, ◌<◌, Bool, true, false, List, [], ◌∷◌, ◌++◌, Option, Some, None, map, slice_get, refl}
use Rattle.std.specs.List.{last_or}
use Rattle.std.specs.Option.{option_map, option_map_or, option_to_list}
use Rattle.std.specs.Coded.{Coded, code_by, coded×, coded_ℕ, coded_list, coded_option}
use Rattle.nf_rational.specs.Rational.{ℚ, coded_ℚ}
use Rattle.nf_rational.specs.Operations.{0ℚ}
use Rattle.nf_rational.specs.Order.{◌<ℚ◌}
use Rattle.nf_model.specs.Curve.{Point}
use Rattle.nf_model.specs.Equilibrium.{Trace}
use Rattle.nf_model.specs.Codes.{coded_points}
use Rattle.nf_thin_def.specs.ReportCurves.{GrowingCurve, LinkCurves}
use Rattle.nf_thin_def.specs.Ends.{time_of_last}
use Rattle.nf_curve.specs.Points.{last_time}
use Rattle.nf_phase_curves.specs.declared.growing.End.{End}

-- ---- a grown value, and the number of further corners with reserved memory
pub record Roomy (A : Type 0) : Type 0 where
  pub grown : A
  pub spare : ℕ

abbrev pub HasReserve : {A : Type 0} → Roomy A → Type 0
HasReserve r = 0 < r.spare

-- The grown values of several curves.
abbrev pub all_grown : {A : Type 0} → List (Roomy A) → List A
all_grown several = map (λ r. r.grown) several

-- Memory is reserved for one more corner of each curve.
abbrev pub AllHaveRoom : {A : Type 0} → List (Roomy A) → Type 0
AllHaveRoom {A} several = (i : ℕ) (r : Roomy A) → slice_get several i ≡ Some r → HasReserve r

-- ---- corners and the moving end
abbrev pub points_to : List Point → Option End → List Point
points_to corners None = corners
points_to corners (Some end) = corners ++ (end.time, end.value) ∷ []

abbrev pub end_slope : Option End → Option ℚ
end_slope end = option_map (λ e. e.slope) end

-- The corners after an extension; the end is among them unless the extension has the slope of the last piece.
abbrev pub corners_by : Bool → List Point → Option End → List Point
corners_by true corners end = corners
corners_by false corners end = points_to corners end

-- The end is later than the corners.
abbrev pub IsAfter : List Point → Option End → Type 0
IsAfter corners None = Unit {0}
IsAfter corners (Some end) = last_time corners <ℚ end.time

-- The value of the last point.
abbrev pub end_value : List Point → ℚ
end_value points = option_map_or (λ point. point.1) (last_or None points) 0ℚ

-- ---- the rates between corners; none if the curve has one point only
abbrev pub AreBefore : List ℚ → Option ℚ → Type 0
AreBefore rates None = rates ≡ []
AreBefore rates (Some rate) = Unit {0}

-- The rates after an extension; that of the last piece is among them unless the extension has that rate.
abbrev pub rates_by : Bool → List ℚ → Option ℚ → List ℚ
rates_by true rates last = rates
rates_by false rates last = rates ++ option_to_list last

-- The curves end before `time`.
abbrev pub AllEndBefore : ℚ → List GrowingCurve → Type 0
AllEndBefore time curves = (v : ℕ) (curve : GrowingCurve) → slice_get curves v ≡ Some curve → time_of_last curve.points <ℚ time

-- ---- injective codes of these values
abbrev pub coded_roomy : {A : Type 0} → Coded A → Coded (Roomy A)
coded_roomy {A} code = code_by (A × ℕ) (coded× code coded_ℕ) (λ r. (r.grown, r.spare))
    (λ p. record { grown = p.0; spare = p.1 }) (λ _. refl)

abbrev pub coded_growing : Coded GrowingCurve
coded_growing = code_by (List (ℚ × ℚ) × Option ℚ) (coded× coded_points (coded_option coded_ℚ)) (λ c. (c.points, c.slope))
    (λ p. record { points = p.0; slope = p.1 }) (λ _. refl)

abbrev pub coded_trace : Coded Trace
coded_trace = code_by (List (ℚ × ℚ) × List ℚ) (coded× coded_points (coded_list coded_ℚ)) (λ t. (t.points, t.rates))
    (λ p. record { points = p.0; rates = p.1 }) (λ _. refl)

abbrev pub coded_curves : Coded LinkCurves
coded_curves = code_by (Trace × (Trace × GrowingCurve)) (coded× coded_trace (coded× coded_trace coded_growing))
    (λ c. (c.inflow, (c.outflow, c.queue))) (λ p. record { inflow = p.0; outflow = p.1.0; queue = p.1.1 }) (λ _. refl)
