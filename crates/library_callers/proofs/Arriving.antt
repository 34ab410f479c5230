-- Arrivals at the sink, by what a run or a loading gives.
use Rattle.std.proofs.Common.{◌≡◌, ℕ, List, true, refl, subst, ◌∙◌}
use Rattle.std.specs.Prelude.{Option, Some, None, is_some, slice_get}
use Rattle.nf_rational.specs.Rational.{ℚ}
use Rattle.nf_rational.specs.Operations.{0ℚ}
use Rattle.nf_rational.specs.Order.{◌≤ℚ◌}
use Rattle.nf_rational_laws.proofs.Order.{≤ℚ_of_same}
use Rattle.nf_model.specs.Curve.{value}
use Rattle.nf_model.specs.Network.{Network}
use Rattle.nf_model.specs.Equilibrium.{label}
use Rattle.nf_net_def.specs.declared.Cause.{Cause}
use Rattle.nf_net_def.specs.Report.{Report}
use Rattle.nf_frac_def.specs.Passing.{passes_Q}
use Rattle.nf_thin_def.specs.PhaseRun.{Bounds, IsRunReport}
use Rattle.nf_phase.specs.Solution.{IsRunSolution}
use Rattle.nf_routes_def.specs.Routes.{Route}
use Rattle.nf_routes_def.specs.RoutesList.{Routed}
use Rattle.nf_routes_def.specs.Meanings.{IsRouted, RoutesArrive, travel_at, exits_along}
use Rattle.library_callers.specs.Arrivals.{ArrivesAt, StopsBefore}
use Rattle.library_callers.specs.RouteArrivals.{AllArrivedBy}

-- a run that isn't stopped has reached its horizon
pub arrives : (net : Network) (bounds : Bounds) (phases : ℕ) (report : Report) (time : ℚ) → IsRunSolution net bounds phases report → report.stop ≡ None
    → time ≡ label report.flow net.sink report.horizon → ArrivesAt net report.horizon time
arrives net bounds phases report time is none there =
    record { flow = report.flow; equilibrium = is.equilibrium; reached = is.well_formed.stop.0 none; arrival = there }

-- a run that is stopped has a cause
stopped_by : (net : Network) (bounds : Bounds) (report : Report) (stop : Option (Cause ℚ)) → IsRunReport passes_Q net bounds report → report.stop ≡ stop → is_some stop ≡ true
    → StopsBefore net bounds
stopped_by net bounds report (Some cause) is same e = record { report = report; run = is; cause = cause; stops = same }
stopped_by net bounds report None is same e = absurd (cc)

pub stops : (net : Network) (bounds : Bounds) (phases : ℕ) (report : Report) → IsRunSolution net bounds phases report → is_some report.stop ≡ true → StopsBefore net bounds
stops net bounds phases report is some = stopped_by net bounds report report.stop is.run refl some

-- the last departure along a route is the last one to arrive
pub arrived : (net : Network) (routes : List Route) (r : ℕ) (horizon time : ℚ) (routed : Routed) → 0ℚ ≤ℚ horizon → IsRouted net routes horizon routed
    → RoutesArrive net routes horizon routed → time ≡ value (travel_at routed r) horizon → AllArrivedBy net routes r horizon time
arrived net routes r horizon time routed nn is arrive there = record {
  routed = routed;
  loading = is;
  all = λ route later here by.
      let exit = there ∙ is.travels r route horizon here (nn, ≤ℚ_of_same horizon horizon refl) in
      arrive.all r route later here (subst (λ (t : ℚ). t ≤ℚ later) exit by);
}
