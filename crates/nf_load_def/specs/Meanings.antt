-- Meaning of cumulative amounts and of loadings.
use Rattle.std.specs.Prelude.{◌≡◌, List, [], ◌∷◌, Option}
use Rattle.nf_rational.specs.Rational.{ℚ}
use Rattle.nf_rational.specs.Operations.{0ℚ, ◌+ℚ◌}
use Rattle.nf_rational.specs.Order.{◌≤ℚ◌}
use Rattle.nf_model.specs.Curve.{Within, value, NeverFalls, IsCurve, IsShort}
use Rattle.nf_model.specs.Network.{Link, Piece, supplied}
use Rattle.nf_model.specs.Queue.{IsQueue, IsExit, IsOutflow}
use Rattle.nf_load_def.specs.Loading.{Loaded}

-- the amount supplied by the pieces up to `last`, and constant after it
pub record IsCumulative (pieces : List Piece) (last : ℚ) (points : List (ℚ × ℚ)) : Type 0 where
  pub curve : IsCurve points
  pub begins : value points 0ℚ ≡ 0ℚ
  pub rises : NeverFalls (value points)
  pub values : (time : ℚ) → Within 0ℚ last time → value points time ≡ supplied pieces time
  pub after : (time : ℚ) → last ≤ℚ time → value points time ≡ supplied pieces last

-- The curves follow the law of the point queue for the inflow, and are in short form. Queue and exit do up to `last`, and the outflow does
-- up to one transit time later.
pub record IsLoaded (transit : ℚ) (capacity : Option ℚ) (inflow : List (ℚ × ℚ)) (last : ℚ) (loaded : Loaded) : Type 0 where
  pub queue_curve : IsCurve loaded.queue
  pub outflow_curve : IsCurve loaded.outflow
  pub exit_curve : IsCurve loaded.exit
  pub queue_short : IsShort loaded.queue
  pub outflow_short : IsShort loaded.outflow
  pub exit_short : IsShort loaded.exit
  pub queue_values : (time : ℚ) → Within 0ℚ last time → IsQueue capacity (value inflow) time (value loaded.queue time)
  pub exit_values : (time : ℚ) → Within 0ℚ last time → IsExit transit capacity (value inflow) time (value loaded.exit time)
  pub outflow_values : (time : ℚ) → Within 0ℚ (last +ℚ transit) time
      → IsOutflow transit capacity (value inflow) time (value loaded.outflow time)

-- the loading of a link with its pieces up to `last`: its inflow is the amount that they supply
pub record IsLinkLoaded (last : ℚ) (link : Link) (pieces : List Piece) (loaded : Loaded) : Type 0 where
  pub inflow : List (ℚ × ℚ)
  pub cumulative : IsCumulative pieces last inflow
  pub loading : IsLoaded link.transit link.capacity inflow last loaded

-- each link is loaded with its pieces
abbrev pub AreLoaded : ℚ → List Link → List (List Piece) → List Loaded → Type 0
AreLoaded last [] [] [] = Unit {0}
AreLoaded last (link ∷ links) (pieces ∷ more) (loaded ∷ rest) = IsLinkLoaded last link pieces loaded × AreLoaded last links more rest
AreLoaded last links pieces loaded = ⊥
