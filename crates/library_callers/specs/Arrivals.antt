-- The arrival of a departure in an equilibrium.
use Rattle.std.specs.Prelude.{◌≡◌, Some}
use Rattle.nf_rational.specs.Rational.{ℚ}
use Rattle.nf_frac_def.specs.Passing.{passes_Q}
use Rattle.nf_model.specs.Network.{Network}
use Rattle.nf_model.specs.Equilibrium.{Flow, Equilibrium, label}
use Rattle.nf_net_def.specs.declared.Cause.{Cause}
use Rattle.nf_net_def.specs.Report.{Report}
use Rattle.nf_thin_def.specs.PhaseRun.{Bounds, IsRunReport}

-- in an equilibrium up to this departure, a driver who leaves the source then arrives at the sink at this time
pub record ArrivesAt (net : Network) (departure time : ℚ) : Type 0 where
  pub flow : Flow
  pub equilibrium : Equilibrium net flow
  pub reached : flow.reached ≡ departure
  pub arrival : time ≡ label flow net.sink departure

-- the phase run within these bounds is stopped before its horizon, for this cause
pub record StopsBefore (net : Network) (bounds : Bounds) : Type 0 where
  pub report : Report
  pub run : IsRunReport passes_Q net bounds report
  pub cause : Cause ℚ
  pub stops : report.stop ≡ Some cause
