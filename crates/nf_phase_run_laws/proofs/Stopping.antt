-- If a resumed run stopped because no pattern was left, there is no thin flow where it stopped.
use Rattle.std.proofs.Common.{ℕ, Option, sym, subst}
use Rattle.nf_phase_run_laws.proofs.Common.{ℚ, Passing, Network, IsNetwork, Cause, Report, IsWellFormed, Standing, Bounds, WellRun, WellRun-step}
use Rattle.nf_phase_run_laws.proofs.Common.{IsResumedReport, StopsForNoThinFlow, EndsForNone, horizon_ends, phases_end, failing_ends, end_stops, RunsOn}
use Rattle.nf_phase_run_laws.proofs.Common.{at_horizon, at_phases, fails, steps}
use Rattle.nf_phase_run_laws.proofs.Restarting.{well_restarted}

module _ (passes : Passing) (net : Network) (good : IsNetwork net) (bounds : Bounds) where
  pub resumed_ends : (s last : Standing) (stop : Option (Cause ℚ)) → WellRun net s → RunsOn passes net bounds s last stop → EndsForNone net last stop
  resumed_ends s last stop well (at_horizon h) = horizon_ends passes net good bounds s well
  resumed_ends s last stop well (at_phases below h) = phases_end passes net good bounds s well
  resumed_ends s last stop well (fails {cause = c} may f) = failing_ends passes net good bounds s c well f
  resumed_ends s last stop well (steps {new = t} may step rest) = resumed_ends t last stop (WellRun-step passes net good bounds s t well step) rest

pub resumed_stops_for_none : (passes : Passing) (net : Network) (bounds : Bounds) (old : Report) (phases : ℕ) (report : Report) → IsNetwork net → IsWellFormed net old
    → IsResumedReport passes net bounds old phases report → StopsForNoThinFlow net report.stop report.flow
resumed_stops_for_none passes net bounds old phases report good formed r = subst (λ (w : Report). StopsForNoThinFlow net w.stop w.flow) (sym r.report_is)
    (end_stops net r.last r.stop good (resumed_ends passes net good bounds r.run.first r.last r.stop (well_restarted passes net good old formed r.run.first r.run.stands) r.run.runs))
