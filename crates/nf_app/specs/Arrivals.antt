-- The arrival in an equilibrium, beside a quickest flow.
use Rattle.std.specs.Prelude.{◌≡◌, ℕ, Option, Some, None}
use Rattle.nf_rational.specs.Rational.{ℚ}
use Rattle.nf_rational.specs.Order.{◌≤ℚ◌}
use Rattle.nf_model.specs.Network.{Network, supply}
use Rattle.nf_model.specs.Earliest.{IsEarliest}
use Rattle.nf_model.specs.Equilibrium.{inflow, label}
use Rattle.nf_model.specs.Quickest as times
use Rattle.nf_net_def.specs.declared.Cause.{Cause}
use Rattle.nf_net_def.specs.Report.{Report}
use Rattle.nf_phase.specs.Solution.{bounds_of, IsRunSolution}
use Rattle.nf_app_answers.specs.declared.arrival.Arrival.{Arrival}
use Rattle.nf_app.specs.Requests.{usual_budgets}

-- the arrival at this time, unless the run stopped
abbrev pub arrival_of : Option (Cause ℚ) → ℚ → Arrival
arrival_of None time = Arrival.At time
arrival_of (Some cause) time = Arrival.Stopped cause

-- The network is solved to this departure, within the usual budgets. If the run isn't stopped, the arrival is the label of the sink there:
-- the earliest arrival after this departure, in the equilibrium that the report describes. No quickest flow of what is supplied by then
-- takes longer.
pub record ArrivesIn (net : Network) (departs : ℚ) (arrival : Arrival) : Type 0 where
  pub report : Report
  pub phases : ℕ
  pub solution : IsRunSolution net (bounds_of departs usual_budgets) phases report
  pub arrival_is : arrival ≡ arrival_of report.stop (label report.flow net.sink departs)
  pub earliest : (time : ℚ) → arrival ≡ Arrival.At time → IsEarliest net (inflow report.flow) net.sink departs time
  pub no_quicker : (time amount least : ℚ) → arrival ≡ Arrival.At time → amount ≤ℚ supply net departs → times.IsQuickest net amount least
      → least ≤ℚ time

-- the arrival of the given departure; `Never` if there is none
abbrev pub IsArrivalOf : Network → Option ℚ → Arrival → Type 0
IsArrivalOf net None arrival = arrival ≡ Arrival.Never
IsArrivalOf net (Some departs) arrival = ArrivesIn net departs arrival
