-- What `Run::finish` returns never stops because no pattern is left, whatever state the run had reached.
use Rattle.std.proofs.Common.{sym, ap, subst, Result, Ok, Err, IfOk}
use Rattle.nf_app.proofs.Common.{passes_Q, Network, IsNetwork, Report, Standing, Bounds, NeverNoPattern, never_on, IsFinished, solution_report, Reaches}
use Rattle.nf_phase.specs.declared.solution.Solution.{Solution}
use Rattle.nf_phase.proofs.Reached.{Stands-reached}

pub never_finished : (net : Network) (bounds : Bounds) → IsNetwork net → (first : Standing) → Reaches passes_Q net first → {E : Type 0} (result : Result Solution E)
    → IfOk result (λ s. IsFinished net bounds first s.phases (solution_report bounds.horizon s)) → IfOk result (λ s. NeverNoPattern s.stopped)
never_finished net bounds good first reaches (Ok s) is = subst NeverNoPattern (sym (ap (λ (r : Report). r.stop) is.report_is))
    (never_on passes_Q net bounds first is.last is.stop good (Stands-reached passes_Q net good first reaches).well is.runs)
never_finished net bounds good first reaches (Err x) is = tt
