-- No run stops because no pattern is left: otherwise there would be no thin flow for the labels that its flow has reached, but the flow is
-- an equilibrium.
use Rattle.std.proofs.Common.{ℕ, refl, sym, subst, Option}
use Rattle.nf_phase_run_laws.proofs.Common.{ℚ, ≤ℚ_refl, Passing, Network, IsNetwork, Flow, label, Equilibrium, Cause, Report, IsWellFormed, Standing}
use Rattle.nf_phase_run_laws.proofs.Common.{Bounds, IsPhaseRun, flow_of, report_of, IsRunReport, WellRun, Equilibrium-well, report_equilibrium, RunsOn}
use Rattle.nf_phase_run_laws.proofs.Common.{IsResumedReport, HasThinFlow, WellRun-on, labels_reached, StopsForNoThinFlow, end_stops, stops_for_none}
use Rattle.nf_phase_run_laws.proofs.Common.{Forever, IsForever, Equilibrium-forever, Equilibrium-forever_of, number_at-numbers}
use Rattle.nf_forever_laws.proofs.Stopped.{forever_stops_for_none}
use Rattle.nf_phase_run_laws.proofs.Stopping.{resumed_ends, resumed_stops_for_none}
use Rattle.nf_phase_run_laws.specs.Stops.{NeverNoPattern}
use Rattle.nf_phase_run_laws.proofs.AtLabels.{thin_in_equilibrium, well_resumed}

thin_reached : (net : Network) (flow : Flow) → IsNetwork net → Equilibrium net flow → HasThinFlow net flow.reached (labels_reached net flow)
thin_reached net flow good is = thin_in_equilibrium net flow flow.reached (labels_reached net flow) good is (is.reached, ≤ℚ_refl flow.reached)
    (λ v h. sym (number_at-numbers net.nodes (λ v. label flow v flow.reached) v h))

-- A run that stops only if there is no thin flow doesn't stop for that reason.
pub never_of : (net : Network) (flow : Flow) (stop : Option (Cause ℚ)) → IsNetwork net → Equilibrium net flow → StopsForNoThinFlow net stop flow → NeverNoPattern stop
never_of net flow stop good is none phase e =
    let thin : HasThinFlow net flow.reached (labels_reached net flow) = thin_reached net flow good is in
    none phase e thin.0 thin.1 thin.2

-- ---- runs from the start
pub never_report : (passes : Passing) (net : Network) (bounds : Bounds) (report : Report) → IsNetwork net → IsRunReport passes net bounds report → NeverNoPattern report.stop
never_report passes net bounds report good r =
    never_of net report.flow report.stop good (report_equilibrium passes net good bounds report r) (stops_for_none passes net bounds report good r)

pub never_run : (passes : Passing) (net : Network) (bounds : Bounds) (last : Standing) (stop : Option (Cause ℚ)) → IsNetwork net
    → IsPhaseRun passes net bounds last stop → NeverNoPattern stop
never_run passes net bounds last stop good run =
    never_report passes net bounds (report_of bounds.horizon last stop) good (record { last = last; stop = stop; run = run; report_is = refl })

-- ---- runs from a given run state
pub never_on : (passes : Passing) (net : Network) (bounds : Bounds) (first last : Standing) (stop : Option (Cause ℚ)) → IsNetwork net → WellRun net first
    → RunsOn passes net bounds first last stop
    → NeverNoPattern stop
never_on passes net bounds first last stop good well runs =
    never_of net (flow_of last) stop good (Equilibrium-well net good last (WellRun-on passes net good bounds first last stop well runs))
    (end_stops net last stop good (resumed_ends passes net good bounds first last stop well runs))

-- ---- resumed ones
pub never_resumed : (passes : Passing) (net : Network) (bounds : Bounds) (old : Report) (phases : ℕ) (report : Report) → IsNetwork net → IsWellFormed net old
    → IsResumedReport passes net bounds old phases report → NeverNoPattern report.stop
never_resumed passes net bounds old phases report good formed r = never_of net report.flow report.stop good
    (subst (λ (w : Report). Equilibrium net w.flow) (sym r.report_is) (Equilibrium-well net good r.last (well_resumed passes net good bounds old r.last r.stop formed r.run)))
    (resumed_stops_for_none passes net bounds old phases report good formed r)

-- ---- those without a horizon
pub never_forever : (passes : Passing) (net : Network) (phases patterns : ℕ) (forever : Forever) → IsNetwork net
    → IsForever passes net phases patterns forever → NeverNoPattern forever.stop
never_forever passes net phases patterns forever good f = never_of net forever.flow forever.stop good
    (subst (λ (w : Forever). Equilibrium net w.flow) (sym f.forever_is) (Equilibrium-forever_of net f.last f.end (Equilibrium-forever passes net good phases patterns f.last f.end f.run)))
    (forever_stops_for_none passes net phases patterns forever good f)
