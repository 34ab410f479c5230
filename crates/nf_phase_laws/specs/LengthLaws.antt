-- A theorem on the lengths of phases.
use Rattle.std.specs.Prelude.{List}
use Rattle.nf_rational.specs.Rational.{ℚ}
use Rattle.nf_rational.specs.Operations.{0ℚ}
use Rattle.nf_rational.specs.Order.{◌<ℚ◌}
use Rattle.nf_model.specs.Network.{Network}
use Rattle.nf_model.specs.Phases.{IsExtension, IsPhaseLength, IsPhase}

-- Each phase has positive length: the extension length, the length of a phase that begins before the horizon, and the difference of
-- departures are above 0.
pub record PhasesTakeTime : Type 0 where
  pub extension : (net : Network) (slacks slopes : List ℚ) (time length : ℚ) → IsExtension net slacks slopes time length → 0ℚ <ℚ length
  pub length : (net : Network) (slacks slopes : List ℚ) (time horizon length : ℚ) → time <ℚ horizon
      → IsPhaseLength net slacks slopes time horizon length → 0ℚ <ℚ length
  pub time : (net : Network) (horizon : ℚ) (old new : ℚ × List ℚ) → IsPhase net horizon old new → old.0 <ℚ new.0
