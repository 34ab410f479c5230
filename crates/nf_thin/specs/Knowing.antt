-- A pattern known to be accepted.
use Rattle.std.specs.Prelude.{◌≡◌, length}
use Rattle.nf_rational.specs.Rational.{ℚ}
use Rattle.nf_frac_def.specs.Passing.{Passing}
use Rattle.nf_model.specs.Network.{Network}
use Rattle.nf_model.specs.ThinFlow.{Sets}
use Rattle.nf_model.specs.Pattern.{IsSolution}
use Rattle.nf_thin_def.specs.Accepted.{IsAccepted}
use Rattle.nf_thin_one.specs.declared.thin.ThinFlow.{ThinFlow}

-- The known pattern is accepted, and its flows and slopes are the solution.
pub record IsKnown (passes : Passing) (net : Network) (sets : Sets) (rate : ℚ) (known : ThinFlow) : Type 0 where
  pub states : length known.pattern ≡ length net.links
  pub accepted : IsAccepted passes net sets rate known.pattern
  pub solution : IsSolution net sets rate known.pattern known.flows.items known.slopes.items
