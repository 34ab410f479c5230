-- First in, first out.
use Rattle.std.specs.Prelude.{Option}
use Rattle.nf_rational.specs.Rational.{ℚ}
use Rattle.nf_rational.specs.Operations.{0ℚ}
use Rattle.nf_rational.specs.Order.{◌≤ℚ◌}
use Rattle.nf_model.specs.Curve.{NeverFalls}
use Rattle.nf_model.specs.Queue.{IsExit, IsOutflow}
use Rattle.nf_model_laws.specs.Capacity.{IsPositive}

-- the outflow by the exit of an entry time is the inflow by that entry time, if the inflow never falls
abbrev pub FirstInFirstOut : Type 0
FirstInFirstOut = (transit : ℚ) (capacity : Option ℚ) (amount : ℚ → ℚ) (time exit : ℚ) → IsPositive capacity → NeverFalls amount
    → 0ℚ ≤ℚ time
    → IsExit transit capacity amount time exit → IsOutflow transit capacity amount exit (amount time)
