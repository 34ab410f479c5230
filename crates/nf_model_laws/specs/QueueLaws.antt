-- Theorems about queues, exits and outflows, for any cumulative inflow.
use Rattle.std.specs.Prelude.{◌≡◌, List, Option}
use Rattle.nf_rational.specs.Rational.{ℚ}
use Rattle.nf_rational.specs.Operations.{0ℚ, ◌+ℚ◌, ◌-ℚ◌}
use Rattle.nf_rational.specs.Order.{◌≤ℚ◌}
use Rattle.nf_model.specs.Curve.{NeverFalls, value, IsCurve}
use Rattle.nf_model.specs.Queue.{IsQueue, IsExit, IsOutflow}
use Rattle.nf_model_laws.specs.Affine.{IsAffine, queue_after}
use Rattle.nf_model_laws.specs.Capacity.{IsPositive}

-- each queue, exit and outflow at a time is unique
pub record LinkHasOneValue : Type 0 where
  pub queue : (capacity : Option ℚ) (amount : ℚ → ℚ) (time y z : ℚ) → IsQueue capacity amount time y
      → IsQueue capacity amount time z → y ≡ z
  pub exit : (transit : ℚ) (capacity : Option ℚ) (amount : ℚ → ℚ) (time y z : ℚ)
      → IsExit transit capacity amount time y → IsExit transit capacity amount time z → y ≡ z
  pub outflow : (transit : ℚ) (capacity : Option ℚ) (amount : ℚ → ℚ) (time y z : ℚ)
      → IsOutflow transit capacity amount time y → IsOutflow transit capacity amount time z → y ≡ z

-- a queue is never negative, so nothing leaves earlier than one transit time after its entry
pub record QueueIsNotNegative : Type 0 where
  pub queue : (capacity : Option ℚ) (amount : ℚ → ℚ) (time queue : ℚ) → IsQueue capacity amount time queue → 0ℚ ≤ℚ queue
  pub exit : (transit : ℚ) (capacity : Option ℚ) (amount : ℚ → ℚ) (time exit : ℚ) → IsPositive capacity
      → IsExit transit capacity amount time exit → time +ℚ transit ≤ℚ exit

-- the outflow, one transit time after a moment, is equal to the inflow by that moment less the queue
pub record OutflowIsInflowLessQueue : Type 0 where
  pub outflow : (transit : ℚ) (capacity : Option ℚ) (amount : ℚ → ℚ) (time queue : ℚ) → 0ℚ ≤ℚ time → IsQueue capacity amount time queue
      → IsOutflow transit capacity amount (time +ℚ transit) (amount time -ℚ queue)
  pub queue : (transit : ℚ) (capacity : Option ℚ) (amount : ℚ → ℚ) (time out : ℚ) → 0ℚ ≤ℚ time
      → IsOutflow transit capacity amount (time +ℚ transit) out
      → IsQueue capacity amount time (amount time -ℚ out)

-- a later entry has no earlier exit, if the inflow never falls
abbrev pub ExitNeverFalls : Type 0
ExitNeverFalls = (transit : ℚ) (capacity : Option ℚ) (amount : ℚ → ℚ) (earlier later y z : ℚ) → IsPositive capacity → NeverFalls amount
    → earlier ≤ℚ later
    → IsExit transit capacity amount earlier y → IsExit transit capacity amount later z → y ≤ℚ z

-- a queue is 0 at time 0; on an interval with an affine inflow, `queue_after` gives the queue
pub record QueueGoesOn : Type 0 where
  pub begins : (capacity : Option ℚ) (amount : ℚ → ℚ) → IsQueue capacity amount 0ℚ 0ℚ
  pub step : (capacity : Option ℚ) (amount : ℚ → ℚ) (start end rate queue time : ℚ) → IsAffine amount start end rate
      → IsQueue capacity amount start queue
      → start ≤ℚ time → time ≤ℚ end → IsQueue capacity amount time (queue_after capacity rate queue (time -ℚ start))

-- a link whose inflow is a curve has a queue, an exit and an outflow at each time from 0 on
pub record LinkHasValues : Type 0 where
  pub queue : (capacity : Option ℚ) (points : List (ℚ × ℚ)) (time : ℚ) → IsCurve points → 0ℚ ≤ℚ time
      → (queue : ℚ) × IsQueue capacity (value points) time queue
  pub exit : (transit : ℚ) (capacity : Option ℚ) (points : List (ℚ × ℚ)) (time : ℚ) → IsCurve points → 0ℚ ≤ℚ time
      → (exit : ℚ) × IsExit transit capacity (value points) time exit
  pub outflow : (transit : ℚ) (capacity : Option ℚ) (points : List (ℚ × ℚ)) (time : ℚ) → IsCurve points → 0ℚ ≤ℚ time
      → (out : ℚ) × IsOutflow transit capacity (value points) time out
