-- The labels of a run are the earliest arrivals, as those of each equilibrium are.
use Rattle.std.proofs.Common.{ℕ, ◌<◌, sym, subst, Option}
use Rattle.nf_phase_laws.proofs.Common.{ℚ, 0ℚ, ≤ℚ_refl, Passing, number_at, Within, Network, IsNetwork, IsEarliest, label, inflow, Equilibrium, Cause}
use Rattle.nf_phase_laws.proofs.Common.{Report, Standing, Bounds, IsPhaseRun, IsRunReport, flow_of}
use Rattle.nf_phase_laws.proofs.Run.{run_equilibrium, report_equilibrium}
use Rattle.nf_phase_laws.proofs.ShortRun.{run_keeps}

module _ (passes : Passing) (net : Network) (good : IsNetwork net) (bounds : Bounds) where
  pub run_earliest : (last : Standing) (stop : Option (Cause ℚ)) → IsPhaseRun passes net bounds last stop → (v : ℕ) → v < net.nodes
      → IsEarliest net (inflow (flow_of last)) v last.time (number_at last.labels v)
  run_earliest last stop run v h =
      let eq : Equilibrium net (flow_of last) = run_equilibrium passes net good bounds last stop run in
      subst (λ (y : ℚ). IsEarliest net (inflow (flow_of last)) v last.time y) (sym ((run_keeps passes net good bounds last stop run).values v h))
      (eq.nash.labels v last.time h (eq.reached, ≤ℚ_refl last.time))

  pub report_earliest : (report : Report) → IsRunReport passes net bounds report → (v : ℕ) (departure : ℚ) → v < net.nodes → Within 0ℚ report.flow.reached departure
      → IsEarliest net (inflow report.flow) v departure (label report.flow v departure)
  report_earliest report run v departure h w = (report_equilibrium passes net good bounds report run).nash.labels v departure h w
