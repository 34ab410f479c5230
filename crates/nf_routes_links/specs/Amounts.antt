-- Properties of amount curves and of exit curves.
use Rattle.std.specs.Prelude.{◌≡◌, List}
use Rattle.nf_rational.specs.Operations.{0ℚ}
use Rattle.nf_rational.specs.Order.{◌≤ℚ◌}
use Rattle.nf_model.specs.Curve.{Point, value, NeverFalls, IsCurve}

-- an amount by time: it is 0 at time 0 and never falls
pub record IsAmountCurve (points : List Point) : Type 0 where
  pub curve : IsCurve points
  pub begins : value points 0ℚ ≡ 0ℚ
  pub rises : NeverFalls (value points)

-- the exits of a link by the time of entry: the first is at least 0, and they never fall
pub record AreExits (points : List Point) : Type 0 where
  pub curve : IsCurve points
  pub first : 0ℚ ≤ℚ value points 0ℚ
  pub rises : NeverFalls (value points)
