-- The result of a run that has ended.
use Rattle.std.proofs.Common.{◌≡◌, ℕ, suc, ◌↔◌, sym, ap, subst, refl, ◌∙◌, arith, Option, Some, None, is_none, Result, Ok, Err, IfOk}
use Rattle.nf_phase.proofs.Common.{none-some, slice_get-map, ℚ, ◌≤ℚ◌, ◌<ℚ◌, <ℚ_irrefl, Passing, passes_Q, Link, Network, IsNetwork, hops, slacks_of}
use Rattle.nf_phase.proofs.Common.{Equilibrium, Cause, Standing, Bounds, IsStart, Goes, IsPhaseRun, IsShortFlow, flow_of, report_of, Continues, Steps}
use Rattle.nf_phase.proofs.Common.{continues, begins, RunsOn, at_horizon, at_phases, fails, steps, run_keeps, IsRunSolution, IsFinished, solution_report}
use Rattle.nf_phase.proofs.Common.{EndsAtItsLabels, Reaches}
use Rattle.std.specs.Option.{option_map}
use Rattle.nf_net_def.specs.Report.{Report, IsWellFormed}
use Rattle.nf_net_laws.proofs.ReportFacts.{well_formed}
use Rattle.nf_thin_def.specs.PhaseRun.{Runs, at_horizon as at_horizon_of_run, at_phases as at_phases_of_run, fails as fails_of_run, goes as goes_of_run}
use Rattle.nf_phase_laws.proofs.RunsOn.{closed-at_start}
use Rattle.nf_phase_laws.proofs.Sequence.{sequence_ends}
use Rattle.nf_curve.specs.Flows.{seen_flow as flow_in}
use Rattle.nf_phase.specs.declared.solution.Solution.{Solution}
use Rattle.nf_phase.proofs.Reached.{Stands, Stands-reached}
use Rattle.nf_phase.proofs.ShortReached.{short_reached}
use Rattle.nf_phase.proofs.Told.{ends_told}
use Rattle.nf_phase.proofs.Stepped.{equilibrium_reached, reaches_step, begin_step}
use Rattle.nf_phase_laws.proofs.Phases.{IsPhaseLength-within}
use Rattle.nf_thin_laws.proofs.OneRun.{fails_below}

-- ---- no phase extends beyond the horizon
module _ (passes : Passing) (net : Network) where
  pub goes_within : (horizon : ℚ) (patterns : ℕ) (s t : Standing) → Goes passes net horizon patterns s t → t.time ≤ℚ horizon
  goes_within horizon patterns s t g =
      subst (λ (n : Standing). n.time ≤ℚ horizon) (sym g.new_is) (IsPhaseLength-within net
      (slacks_of (hops net) s.labels) g.slopes s.time horizon g.step.length g.is_length)

-- ---- the end of a run
pub record EndsWell (passes : Passing) (net : Network) (horizon : ℚ) (last : Standing) (stop : Option (Cause ℚ)) : Type 0 where
  pub reaches : Reaches passes net last
  pub within : last.time ≤ℚ horizon
  pub stops : (stop ≡ None) ↔ (last.time ≡ horizon)

module _ (passes : Passing) (net : Network) (good : IsNetwork net) (bounds : Bounds) where
  below_stops : (s : Standing) (cause : Cause ℚ) → s.time <ℚ bounds.horizon → (Some cause ≡ None) ↔ (s.time ≡ bounds.horizon)
  below_stops s cause below = (λ e. absurd (none-some cause (sym e)), λ e. absurd (<ℚ_irrefl bounds.horizon (subst (λ (t : ℚ). t <ℚ bounds.horizon) e below)))

  pub step_within : (s t : Standing) → Steps passes net bounds.horizon bounds.patterns s t → t.time ≤ℚ bounds.horizon
  step_within s _ (continues {t = t} c g) = goes_within passes net bounds.horizon bounds.patterns s t g
  step_within s t (begins c g) = goes_within passes net bounds.horizon bounds.patterns s t g

  ends_well : (s last : Standing) (stop : Option (Cause ℚ)) → Reaches passes net s → s.time ≤ℚ bounds.horizon → RunsOn passes net bounds s last stop
      → EndsWell passes net bounds.horizon last stop
  ends_well s last stop reaches within (at_horizon e) = record { reaches = reaches; within = within; stops = (λ _. e, λ _. refl) }
  ends_well s last stop reaches within (at_phases below e) = record { reaches = reaches; within = within; stops = below_stops s _ below }
  ends_well s last stop reaches within (fails {cause = c} may f) =
      record { reaches = reaches; within = within; stops = below_stops s c (fails_below passes net bounds.horizon bounds.patterns s c f) }
  ends_well s last stop reaches within (steps {new = t} may g rest) =
      ends_well t last stop (reaches_step passes net good s reaches bounds.horizon bounds.patterns t g) (step_within s t g) rest

  module _ (first : Standing) (reaches : Reaches passes net first) (within : first.time ≤ℚ bounds.horizon) (last : Standing) (stop : Option (Cause ℚ))
      (runs : RunsOn passes net bounds first last stop) where
    ends : EndsWell passes net bounds.horizon last stop
    ends = ends_well first last stop reaches within runs

    well_formed_run : IsWellFormed net (report_of bounds.horizon last stop)
    well_formed_run =
        let stands : Stands net last = Stands-reached passes net good last ends.reaches in
        well_formed net (report_of bounds.horizon last stop) (equilibrium_reached passes net good last ends.reaches) ends.within ends.stops stands.last_count
        (λ e link p none full. stands.no_full e (slice_get-map (λ (l : Link). is_none l.capacity) net.links e ∙ ap (option_map (λ (l : Link). is_none l.capacity)) p
        ∙ ap (λ (c : Option ℚ). Some (is_none c)) none) full)

    -- ---- the result
    finished_of : passes ≡ passes_Q → (phases : ℕ) (report : Report) → phases ≡ last.made → report ≡ report_of bounds.horizon last stop → IsFinished net bounds first phases report
    finished_of bound phases report count is = record {
      last = last;
      stop = stop;
      runs = subst (λ (p : Passing). RunsOn p net bounds first last stop) bound runs;
      made = sym count;
      report_is = is;
      well_formed = subst (IsWellFormed net) (sym is) well_formed_run;
      equilibrium = subst (λ (r : Report). Equilibrium net r.flow) (sym is) (equilibrium_reached passes net good last ends.reaches);
      short = subst (λ (r : Report). IsShortFlow net r.flow) (sym is) (short_reached passes net good last ends.reaches);
      curves_end = subst (λ (r : Report). EndsAtItsLabels net r.flow) (sym is) (ends_told passes net good last ends.reaches);
    }

    pub finished : passes ≡ passes_Q → {E : Type 0} (result : Result Solution E)
        → IfOk result (λ s. flow_in s.flow ≡ flow_of last) → IfOk result (λ s. s.phases ≡ last.made) → IfOk result (λ s. s.last ≡ last.last) → IfOk result (λ s. s.stopped ≡ stop)
        → IfOk result (λ s. IsFinished net bounds first s.phases (solution_report bounds.horizon s))
    finished bound (Ok s) flow phases states stops =
        finished_of bound s.phases (solution_report bounds.horizon s) phases (λ i. record { horizon = bounds.horizon; flow = flow i; stop = stops i; last = states i })
    finished bound (Err x) flow phases states stops = tt

-- ---- from departure 0 on
module _ (net : Network) (good : IsNetwork net) (bounds : Bounds) where
  -- A run without the remainder of an interrupted phase is a phase run.
  runs_begun : (passes : Passing) (s last : Standing) (stop : Option (Cause ℚ)) → (Continues net s → ⊥) → RunsOn passes net bounds s last stop → Runs passes net bounds s last stop
  runs_begun passes s last stop none (at_horizon e) = at_horizon_of_run e
  runs_begun passes s last stop none (at_phases below e) = at_phases_of_run below e
  runs_begun passes s last stop none (fails may f) = fails_of_run may f
  runs_begun passes s last stop none (steps {new = t} may g rest) =
      let goes_there : Goes passes net bounds.horizon bounds.patterns s t = begin_step passes net bounds.horizon bounds.patterns s t none g in
      goes_of_run may goes_there (runs_begun passes t last stop (λ c. later_made t s.made (ap (λ (n : Standing). n.made) goes_there.new_is) c.0) rest)
    where
      later_made : (t : Standing) (made : ℕ) → t.made ≡ suc made → t.made ≡ 0 → ⊥
      later_made t made e z = absurd (omega arith)

  solution_of : (first : Standing) → IsStart net first → (phases : ℕ) (report : Report) → IsFinished net bounds first phases report → IsRunSolution net bounds phases report
  solution_of first start phases report f =
      let run : IsPhaseRun passes_Q net bounds f.last f.stop = record {
        first = first;
        start = start;
        runs =
            runs_begun passes_Q first f.last f.stop (closed-at_start net first good start) f.runs;
      } in
      record {
        well_formed = f.well_formed;
        equilibrium = f.equilibrium;
        run = record { last = f.last; stop = f.stop; run = run; report_is = f.report_is };
        made = f.made;
        ends = λ others sequence many. sequence_ends passes_Q net good bounds f.last f.stop run others sequence many;
        labels = run_keeps passes_Q net good bounds f.last f.stop run;
        short = f.short;
        curves_end = f.curves_end;
      }

  pub solved : (first : Standing) → IsStart net first → {E : Type 0} (result : Result Solution E) → IfOk result (λ s. IsFinished net bounds first s.phases (solution_report bounds.horizon s))
      → IfOk result (λ s. IsRunSolution net bounds s.phases (solution_report bounds.horizon s))
  solved first start (Ok s) f = solution_of first start s.phases (solution_report bounds.horizon s) f
  solved first start (Err x) f = tt
