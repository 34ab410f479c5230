-- Composition of two curves.
use Rattle.std.specs.Prelude.{Bool, true, false, ◌&&◌, List, [], ◌∷◌, ◌++◌, filter, reverse, Ok}
use Rattle.nf_rational.specs.Rational.{ℚ}
use Rattle.nf_rational.specs.Order.{lt_ℚ}
use Rattle.nf_frac_def.specs.Passing.{Passing}
use Rattle.nf_frac_def.specs.Checked.{Checked, each, ◌>>=◌}
use Rattle.nf_model.specs.Curve.{Point}
use Rattle.nf_curve_def.specs.Lines.{checked_inverse}
use Rattle.nf_curve_def.specs.Values.{checked_value, checked_cut}

abbrev pub points_between : ℚ → ℚ → List Point → List Point
points_between low high points = filter (λ p. lt_ℚ low p.0 && lt_ℚ p.0 high) points

-- lists the points at times strictly between two values, in order from the first value to the second
abbrev pub points_along : Bool → ℚ → ℚ → List Point → List Point
points_along true first second points = points_between first second points
points_along false first second points = reverse (points_between second first points)

module _ (passes : Passing) where
  -- returns the point of the composition where the inner piece from p to q has the time of an outer point as its value
  abbrev pub corner_at : Point → Point → Point → Checked Point
  corner_at p q corner = do
    time ← checked_inverse passes p q corner.0
    Ok (time, corner.1)

  -- lists the points of one inner piece: its beginning, and where it reaches outer points
  abbrev pub composed_piece : List Point → Point → Point → Checked (List Point)
  composed_piece outer p q = do
    y ← checked_value passes outer p.1
    corners ← each (corner_at p q) (points_along (lt_ℚ p.1 q.1) p.1 q.1 outer)
    Ok ((p.0, y) ∷ corners)

  abbrev pub composed_from : List Point → Point → List Point → Checked (List Point)
  composed_from outer p [] = do
    y ← checked_value passes outer p.1
    Ok ((p.0, y) ∷ [])
  composed_from outer p (q ∷ rest) = do
    piece ← composed_piece outer p q
    later ← composed_from outer q rest
    Ok (piece ++ later)

  abbrev pub composed_all : List Point → List Point → Checked (List Point)
  composed_all outer [] = Ok []
  composed_all outer (p ∷ rest) = composed_from outer p rest

  -- computes the composition outer(inner(time)), for times from 0 to `last`
  unfoldable pub checked_composed : List Point → List Point → ℚ → Checked (List Point)
  checked_composed outer inner last = do
    cut ← checked_cut passes inner last
    composed_all outer cut
