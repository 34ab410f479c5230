-- The report of a run is an equilibrium.
use Rattle.std.proofs.Common.{◌≡◌, length, sym, subst, ◌∙◌, Option, map}
use Rattle.nf_phase_laws.proofs.Common.{length-map, ℚ, Passing, AreSlopes, Network, IsNetwork, IsPhase, Trace, HasShape, HasSlopes, Equilibrium, Cause}
use Rattle.nf_phase_laws.proofs.Common.{Report, GrowingCurve, LinkCurves, Standing, Bounds, Goes, Runs, at_horizon, at_phases, fails, goes, IsPhaseRun}
use Rattle.nf_phase_laws.proofs.Common.{IsRunReport, flow_of, from_map, PhaseParts, phase_parts, GrowByPhases, curves_of}
use Rattle.nf_phase_laws.proofs.Holds.{link_within}
use Rattle.nf_phase_laws.proofs.CurveRun.{Grown, Equilibrium-grown}
use Rattle.nf_phase_laws.proofs.WellRun.{WellRun, WellRun-start, GrowByPhases-start}
use Rattle.nf_phase_laws.proofs.Goes.{phase, WellRun-after, GrowByPhases-after}

-- ---- the flow of a run state
module _ (net : Network) (good : IsNetwork net) (s : Standing) (well : WellRun net s) where
  grown : Grown net s.time s.labels (curves_of (flow_of s))
  grown = well.grow

  many : {B : Type 0} (f : LinkCurves → B) → length (map f s.link_curves) ≡ length net.links
  many f = length-map s.link_curves f ∙ well.link_count

  pub HasShape-well : HasShape net (flow_of s)
  HasShape-well = record {
    labels = record { count = length-map s.label_curves (λ (c : GrowingCurve). c.points) ∙ well.label_count; each = λ v h. (grown.curves_stand.labels_end v h).curve };
    inflows = record {
      count = length-map (flow_of s).inflows (λ (t : Trace). t.points)
          ∙ many (λ c. c.inflow);
      each = λ e h. (let l = link_within net e h in (grown.curves_stand.inflows_end e l.0 l.1).curve);
    };
    outflows = record {
      count = length-map (flow_of s).outflows (λ (t : Trace). t.points)
          ∙ many (λ c. c.outflow);
      each = λ e h. (let l = link_within net e h in (grown.description_stands.outflows_end e l.0 l.1).curve);
    };
    queues = record { count = many (λ c. c.queue.points); each = λ e h. (let l = link_within net e h in (grown.description_stands.queues_end e l.0 l.1).curve) };
  }

  pub HasSlopes-well : HasSlopes (flow_of s).inflows × HasSlopes (flow_of s).outflows
  HasSlopes-well = (
    λ e trace h. (let c = from_map (λ (c : LinkCurves). c.inflow) s.link_curves e trace h in subst (λ (t : Trace). AreSlopes t.points t.rates) c.2 (well.inflow_rates e c.0 c.1)),
    λ e trace h. (let c = from_map (λ (c : LinkCurves). c.outflow) s.link_curves e trace h in subst (λ (t : Trace). AreSlopes t.points t.rates) c.2 (well.outflow_rates e c.0 c.1)),
  )

  pub Equilibrium-well : Equilibrium net (flow_of s)
  Equilibrium-well = Equilibrium-grown net s.labels (flow_of s) good well.grow HasShape-well HasSlopes-well.0 HasSlopes-well.1

-- ---- phase by phase
module _ (passes : Passing) (net : Network) (good : IsNetwork net) (bounds : Bounds) where
  pub parts_of : (s t : Standing) (g : Goes passes net bounds.horizon bounds.patterns s t) → WellRun net s → PhaseParts passes net s g.pattern g.flows g.slopes g.step
  parts_of s t g well =
      let grown : Grown net s.time s.labels (curves_of (flow_of s)) = well.grow in
      let count : length g.slopes ≡ length s.labels = g.finds.search.is_search.answers.solution.solves.slope_count ∙ sym grown.stands.count in
      phase_parts passes net good bounds.horizon bounds.patterns s g.pattern g.flows g.slopes g.step count g.lists

  pub WellRun-goes : (s t : Standing) → Goes passes net bounds.horizon bounds.patterns s t → WellRun net s → WellRun net t
  WellRun-goes s t g well =
      let first = g.finds.search.is_search.answers in
      subst (WellRun net) (sym g.new_is)
      (WellRun-after passes net good bounds.horizon s g.pattern g.flows g.slopes g.step well g.finds.below
      (g.finds.search.is_search.is_listing.listed g.place g.pattern first.has_place) first.solution.solves first.solution.meets (parts_of s t g well) g.is_length)

  GrowByPhases-goes : (s t : Standing) → Goes passes net bounds.horizon bounds.patterns s t → WellRun net s → GrowByPhases net s.time s.labels (curves_of (flow_of s))
      → GrowByPhases net t.time t.labels (curves_of (flow_of t))
  GrowByPhases-goes s t g well earlier =
      let first = g.finds.search.is_search.answers in
      subst (λ (n : Standing). GrowByPhases net n.time n.labels (curves_of (flow_of n))) (sym g.new_is)
      (GrowByPhases-after passes net good bounds.horizon s g.pattern g.flows g.slopes g.step well g.finds.below
      (g.finds.search.is_search.is_listing.listed g.place g.pattern first.has_place) first.solution.solves first.solution.meets (parts_of s t g well) g.is_length earlier)

  pub IsPhase-goes : (s t : Standing) → Goes passes net bounds.horizon bounds.patterns s t → WellRun net s → IsPhase net bounds.horizon (s.time, s.labels) (t.time, t.labels)
  IsPhase-goes s t g well =
      let first = g.finds.search.is_search.answers in
      subst (λ (n : Standing). IsPhase net bounds.horizon (s.time, s.labels) (n.time, n.labels)) (sym g.new_is)
      (phase passes net good bounds.horizon s g.pattern g.flows g.slopes g.step well g.finds.below
      (g.finds.search.is_search.is_listing.listed g.place g.pattern first.has_place) first.solution.solves first.solution.meets (parts_of s t g well) g.is_length)

  pub WellRun-runs : (s last : Standing) (stop : Option (Cause ℚ)) → WellRun net s → Runs passes net bounds s last stop → WellRun net last
  WellRun-runs s last stop well (at_horizon e) = well
  WellRun-runs s last stop well (at_phases below e) = well
  WellRun-runs s last stop well (fails may f) = well
  WellRun-runs s last stop well (goes {new = t} may g rest) = WellRun-runs t last stop (WellRun-goes s t g well) rest

  GrowByPhases-runs : (s last : Standing) (stop : Option (Cause ℚ)) → WellRun net s → GrowByPhases net s.time s.labels (curves_of (flow_of s)) → Runs passes net bounds s last stop
      → GrowByPhases net last.time last.labels (curves_of (flow_of last))
  GrowByPhases-runs s last stop well earlier (at_horizon e) = earlier
  GrowByPhases-runs s last stop well earlier (at_phases below e) = earlier
  GrowByPhases-runs s last stop well earlier (fails may f) = earlier
  GrowByPhases-runs s last stop well earlier (goes {new = t} may g rest) = GrowByPhases-runs t last stop (WellRun-goes s t g well) (GrowByPhases-goes s t g well earlier) rest

  module _ (last : Standing) (stop : Option (Cause ℚ)) (run : IsPhaseRun passes net bounds last stop) where
    well : WellRun net last
    well = WellRun-runs run.first last stop (WellRun-start net good run.first run.start) run.runs

    pub run_grows : GrowByPhases net last.time last.labels (curves_of (flow_of last))
    run_grows = GrowByPhases-runs run.first last stop (WellRun-start net good run.first run.start) (GrowByPhases-start net good run.first run.start) run.runs

    pub run_shape : HasShape net (flow_of last)
    run_shape = HasShape-well net good last well

    pub run_slopes : HasSlopes (flow_of last).inflows × HasSlopes (flow_of last).outflows
    run_slopes = HasSlopes-well net good last well

    pub run_equilibrium : Equilibrium net (flow_of last)
    run_equilibrium = Equilibrium-well net good last well

  pub report_equilibrium : (report : Report) → IsRunReport passes net bounds report → Equilibrium net report.flow
  report_equilibrium report r = subst (λ (w : Report). Equilibrium net w.flow) (sym r.report_is) (run_equilibrium r.last r.stop r.run)
