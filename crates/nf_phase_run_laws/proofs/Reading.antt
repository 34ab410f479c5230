-- The numbers of a resumed run are fractions of a file in every state. So its report can be read, and reads back.
use Rattle.std.proofs.Common.{◌≡◌, ℕ, List, Option, sym, subst, Ok}
use Rattle.nf_phase_run_laws.proofs.Common.{ℚ, passes_Q, Pattern, Cause, Named, IsNamed, Report, IsWellFormed, Standing, Bounds, IsCount, IsReadable}
use Rattle.nf_phase_run_laws.proofs.Common.{WellRun-counted, AreReadable, ReadsBack, Stands, resume_list, IsResumedReport, report_in, with_last, Steps}
use Rattle.nf_phase_run_laws.proofs.Common.{continues, begins, RunsOn, at_horizon, at_phases, fails, steps}
use Rattle.nf_report_laws.proofs.ReportKept.{report_kept}
use Rattle.nf_phase_run_laws.proofs.Running.{StandsFit, EndsFit, end_readable, StandsFit-after, cause_readable}
use Rattle.nf_phase_run_laws.proofs.ReadingBack.{readable_reads_back}
use Rattle.nf_phase_run_laws.proofs.CutFits.{IsFractionFlow, HoldsFractions, restart_fits}
use Rattle.nf_phase_run_laws.proofs.Restarting.{restarts, well_restarted}

module _ (n : Named) (named : IsNamed n) (bounds : Bounds) (within : AreReadable bounds) where
  -- ---- the restored state
  first_fits : (old : Report) (s : Standing) → IsWellFormed n.net old → IsReadable old → resume_list passes_Q n.net old ≡ Ok (Stands s) → StandsFit n.net s
  first_fits old s formed can stands =
      let flow : IsFractionFlow old.flow = record { reached = can.reached; labels = can.labels; inflows = can.inflows; outflows = can.outflows; queues = can.queues } in
      let fractions : HoldsFractions s = (restart_fits n.net old flow).value s (restarts passes_Q n.net named.network old formed s stands) in
      record {
        well = well_restarted passes_Q n.net named.network old formed s stands;
        time = fractions.time;
        labels = fractions.labels;
        label_curves = fractions.label_curves;
        link_curves = fractions.link_curves;
      }

  -- ---- phase by phase
  last_fits : (last : Pattern) (s : Standing) → StandsFit n.net s → StandsFit n.net (with_last last s)
  last_fits last s fit = record {
    well = WellRun-counted n.net s s.made last fit.well;
    time = fit.time;
    labels = fit.labels;
    label_curves = fit.label_curves;
    link_curves = fit.link_curves;
  }

  step_fits : (s t : Standing) → StandsFit n.net s → Steps passes_Q n.net bounds.horizon bounds.patterns s t → StandsFit n.net t
  step_fits s _ fit (continues {t = t} c g) = last_fits s.last t (StandsFit-after n named bounds within s fit t g)
  step_fits s t fit (begins c g) = StandsFit-after n named bounds within s fit t g

  end_fits : (s last : Standing) (stop : Option (Cause ℚ)) → StandsFit n.net s → RunsOn passes_Q n.net bounds s last stop → EndsFit n.net last stop
  end_fits s last stop fit (at_horizon e) = record { fit = fit; cause = tt }
  end_fits s last stop fit (at_phases below e) = record { fit = fit; cause = subst IsCount (sym e) within.phases }
  end_fits s last stop fit (fails {cause = c} may f) = record { fit = fit; cause = cause_readable n named bounds within s fit c may f }
  end_fits s last stop fit (steps {new = t} may step rest) = end_fits t last stop (step_fits s t fit step) rest

  module _ (old : Report) (phases : ℕ) (report : Report) where
    pub resumed_readable : IsWellFormed n.net old → IsReadable old → IsResumedReport passes_Q n.net bounds old phases report → IsReadable report
    resumed_readable formed can r = subst IsReadable (sym r.report_is)
        (end_readable n.net bounds.horizon r.last r.stop within.horizon (end_fits r.run.first r.last r.stop (first_fits old r.run.first formed can r.run.stands) r.run.runs))

    pub resumed_reads_back : (text : List ℕ) → report_in n text ≡ Ok old → IsWellFormed n.net report → IsResumedReport passes_Q n.net bounds old phases report → ReadsBack n report
    resumed_reads_back text read formed r = let kept = report_kept n text old named read in readable_reads_back n report named formed (resumed_readable kept.0 kept.1 r)
