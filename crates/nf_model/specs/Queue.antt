-- A link with a point queue (Vickrey 1969), by its cumulative inflow: `amount time` has entered the link by `time`.
use Rattle.std.specs.Prelude.{◌≡◌, Option, Some, None}
use Rattle.nf_rational.specs.Rational.{ℚ}
use Rattle.nf_rational.specs.Operations.{0ℚ, ◌+ℚ◌, ◌-ℚ◌, ◌*ℚ◌, ◌/ℚ◌}
use Rattle.nf_rational.specs.Order.{◌≤ℚ◌, ◌<ℚ◌}
use Rattle.nf_model.specs.Curve.{IsGreatest, IsLeast}

-- The queue at a time is the greatest difference, over the moments in [0, `time`], of two amounts: the inflow since the moment, and the
-- service that the capacity allows since then. On an unbounded link the queue is 0.
pub record IsQueue (capacity : Option ℚ) (amount : ℚ → ℚ) (time queue : ℚ) : Type 0 where
  pub unbounded : capacity ≡ None → queue ≡ 0ℚ
  pub bounded : (rate : ℚ) → capacity ≡ Some rate
      → IsGreatest (λ since. amount time -ℚ amount since -ℚ rate *ℚ (time -ℚ since)) 0ℚ time queue

-- the waiting time in a queue
abbrev pub waiting : Option ℚ → ℚ → ℚ
waiting None queue = 0ℚ
waiting (Some rate) queue = queue /ℚ rate

-- the exit time, for entry at `time`, is the sum of that time, the transit time and the waiting time
pub record IsExit (transit : ℚ) (capacity : Option ℚ) (amount : ℚ → ℚ) (time exit : ℚ) : Type 0 where
  pub queue : ℚ
  pub is_queue : IsQueue capacity amount time queue
  pub is_sum : exit ≡ time +ℚ transit +ℚ waiting capacity queue

-- The cumulative outflow at a time. Before the transit time it is 0. Later it is the least sum, over the moments up to one transit time
-- before, of two amounts: the inflow by the moment, and the service that the capacity allows from then until one transit time before.
-- On an unbounded link it is the inflow by one transit time before.
pub record IsOutflow (transit : ℚ) (capacity : Option ℚ) (amount : ℚ → ℚ) (time out : ℚ) : Type 0 where
  pub early : time <ℚ transit → out ≡ 0ℚ
  pub unbounded : transit ≤ℚ time → capacity ≡ None → out ≡ amount (time -ℚ transit)
  pub bounded : (rate : ℚ) → transit ≤ℚ time → capacity ≡ Some rate
      → IsLeast (λ since. amount since +ℚ rate *ℚ (time -ℚ transit -ℚ since)) 0ℚ (time -ℚ transit) out
