-- Extensions of the curves of a flow over a phase, by one point each.
use Rattle.std.specs.Prelude.{◌≡◌, ℕ, ◌<◌, List, [], ◌∷◌, ◌++◌}
use Rattle.nf_rational.specs.Rational.{ℚ}
use Rattle.nf_rational.specs.Operations.{0ℚ, ◌+ℚ◌, ◌*ℚ◌}
use Rattle.nf_rational.specs.Order.{◌≤ℚ◌, ◌<ℚ◌}
use Rattle.nf_model.specs.Curve.{Point, Within, value, slope, IsCurve}
use Rattle.nf_model.specs.Network.{Link, Network, IsNetwork, IsLink}
use Rattle.nf_model_laws.specs.Affine.{IsAffine}
use Rattle.nf_phase_laws.specs.Invariant.{GoesOn}

-- A curve with this last point.
pub record LastPoint (points : List Point) (last : Point) : Type 0 where
  pub front : List Point
  pub same : points ≡ front ++ last ∷ []
  pub curve : IsCurve points

-- The curve is extended from its last point along a line to a later point, the new last point. Up to the old last point its values stay.
-- The old last point may or may not remain a point of the curve.
pub record GoesOnTo (points points' : List Point) (last new : Point) : Type 0 where
  pub later : last.0 <ℚ new.0
  pub before : (time : ℚ) → Within 0ℚ last.0 time → value points' time ≡ value points time
  pub line : IsAffine (value points') last.0 new.0 (slope last new)
  pub ends : LastPoint points' new

-- Appending the point is such an extension. Replacing the last point is one too, if the curve reached it with the slope of the extension.
pub record PointsGoOn : Type 0 where
  pub appended : (points : List Point) (last new : Point) → LastPoint points last → last.0 <ℚ new.0
      → GoesOnTo points (points ++ new ∷ []) last new
  pub replaced : (front : List Point) (before last new : Point) → LastPoint (front ++ before ∷ last ∷ []) last → last.0 <ℚ new.0
      → slope before last ≡ slope last new
      → GoesOnTo (front ++ before ∷ last ∷ []) (front ++ before ∷ new ∷ []) last new

-- The values of the curves as functions of time.
abbrev pub at : (ℕ → List Point) → ℕ → ℚ → ℚ
at curves i time = value (curves i) time

-- The curves of a flow up to a departure: each label curve ends there, and each inflow ends at the label of its link's tail.
pub record CurvesStand (net : Network) (inflows labels : ℕ → List Point) (until : ℚ) : Type 0 where
  pub labels_end : (v : ℕ) → v < net.nodes → LastPoint (labels v) (until, at labels v until)
  pub inflows_end : (e : ℕ) (link : Link) → IsLink net e link
      → LastPoint (inflows e) (at labels link.tail until, at inflows e (at labels link.tail until))

-- Over a phase of this length each label curve is extended at its slope. Each inflow is extended by the flow per departure, while the label
-- of the tail rises. If the label of the tail is constant, the inflow is unchanged.
pub record CurvesGoOn (net : Network) (inflows labels : ℕ → List Point) (until length : ℚ) (flow slope : ℕ → ℚ)
    (inflows' labels' : ℕ → List Point) : Type 0 where
  pub labels_go : (v : ℕ) → v < net.nodes
      → GoesOnTo (labels v) (labels' v) (until, at labels v until) (until +ℚ length, at labels v until +ℚ slope v *ℚ length)
  pub inflows_go : (e : ℕ) (link : Link) → IsLink net e link → 0ℚ <ℚ slope link.tail
      → GoesOnTo (inflows e) (inflows' e) (at labels link.tail until, at inflows e (at labels link.tail until))
      (at labels link.tail until +ℚ slope link.tail *ℚ length, at inflows e (at labels link.tail until) +ℚ flow e *ℚ length)
  pub inflows_stay : (e : ℕ) (link : Link) → IsLink net e link → slope link.tail ≡ 0ℚ → inflows' e ≡ inflows e

-- The flow of the curves is then extended in the same way, if no flow enters a link whose tail has a constant label. The new curves end
-- where the phase ends.
pub record CurvesMakeFlow : Type 0 where
  pub flow : (net : Network) (inflows labels : ℕ → List Point) (until length : ℚ) (flow slope : ℕ → ℚ) (inflows' labels' : ℕ → List Point)
      → IsNetwork net
      → 0ℚ <ℚ length → ((v : ℕ) → 0ℚ ≤ℚ slope v) → ((e : ℕ) (link : Link) → IsLink net e link → slope link.tail ≡ 0ℚ → flow e ≡ 0ℚ)
      → CurvesStand net inflows labels until → CurvesGoOn net inflows labels until length flow slope inflows' labels'
      → GoesOn net (at inflows) (at labels) until length flow slope (at inflows') (at labels')
  pub stand : (net : Network) (inflows labels : ℕ → List Point) (until length : ℚ) (flow slope : ℕ → ℚ) (inflows' labels' : ℕ → List Point)
      → IsNetwork net
      → 0ℚ <ℚ length → ((v : ℕ) → 0ℚ ≤ℚ slope v) → ((e : ℕ) (link : Link) → IsLink net e link → slope link.tail ≡ 0ℚ → flow e ≡ 0ℚ)
      → CurvesStand net inflows labels until → CurvesGoOn net inflows labels until length flow slope inflows' labels'
      → CurvesStand net inflows' labels' (until +ℚ length)
