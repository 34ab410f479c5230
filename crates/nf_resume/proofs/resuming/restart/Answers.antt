use Rattle.std.proofs.Common.{length, sym, ap, subst, ◌∙◌, Result}
use Rattle.nf_resume.proofs.Common.{err_from_is_err_and, ℚ, PassedAt, Stops, passes_Q, Pattern, Flow, Standing, seen_flow, was_ok, cut_flow, cut_flow-is}
use Rattle.nf_resume.proofs.Common.{seen_report, NoneFull}
use Rattle.nf_frac_def.specs.declared.Part.TheVariants.{Curve as OfCurve}
use Rattle.nf_resume_laws.proofs.Restarted.{Equilibrium-cut_flow, IsShortFlow-cut_flow, EndsAtItsLabels-cut_flow}
use Rattle.nf_resume.proofs.Resumed.{cut_stops, restored}
use Rattle.nf_resume.proofs.resuming.restart.Goals as goal

pub returns-in_err-flow-clause-list : goal.returns-in_err-flow-clause-list
returns-in_err-flow-clause-list c =
    let p = err_from_is_err_and c.from_residual.result c.from_residual.ensures.1 in
    rw (p.1, p.2) (cut_stops passes_Q c.args.net.now.net (seen_report c.args.report.now) c.in_err-flow.field-0.0 c.in_err-flow.ensures)

pub restore-requires-clause-equilibrium : goal.restore-requires-clause-equilibrium
restore-requires-clause-equilibrium c =
    Equilibrium-cut_flow passes_Q c.args.net.now.net (seen_flow c.args.report.now.flow) (seen_flow c.in_ok-flow.flow) c.recall.ensures.network c.requires.equilibrium
    (was_ok OfCurve (cut_flow passes_Q c.args.net.now.net (seen_flow c.args.report.now.flow)) (seen_flow c.in_ok-flow.flow) c.in_ok-flow.ensures)

pub restore-requires-clause-ends : goal.restore-requires-clause-ends
restore-requires-clause-ends c =
    EndsAtItsLabels-cut_flow passes_Q c.args.net.now.net (seen_flow c.args.report.now.flow) (seen_flow c.in_ok-flow.flow) c.recall.ensures.network c.requires.equilibrium
    (was_ok OfCurve (cut_flow passes_Q c.args.net.now.net (seen_flow c.args.report.now.flow)) (seen_flow c.in_ok-flow.flow) c.in_ok-flow.ensures)

pub restore-requires-clause-short : goal.restore-requires-clause-short
restore-requires-clause-short c =
    IsShortFlow-cut_flow passes_Q c.args.net.now.net (seen_flow c.args.report.now.flow) (seen_flow c.in_ok-flow.flow) c.recall.ensures.network c.requires.equilibrium
    (was_ok OfCurve (cut_flow passes_Q c.args.net.now.net (seen_flow c.args.report.now.flow)) (seen_flow c.in_ok-flow.flow) c.in_ok-flow.ensures)

pub restore-requires-clause-states : goal.restore-requires-clause-states
restore-requires-clause-states c = ap (λ (l : Pattern). length l) c.in_ok-last.ensures ∙ c.requires.formed.states

pub restore-requires-clause-no_full : goal.restore-requires-clause-no_full
restore-requires-clause-no_full c = subst (λ (l : Pattern). NoneFull c.args.net.now.net l) (sym c.in_ok-last.ensures) c.requires.formed.no_full

pub returns-in_err-run-clause-list : goal.returns-in_err-run-clause-list
returns-in_err-run-clause-list c =
    let p = err_from_is_err_and c.from_residual-in_err-run.result c.from_residual-in_err-run.ensures.1 in
    rw (p.1, p.2) (subst (λ (r : Result Standing (PassedAt ℚ)). Stops (λ (q : ℚ). q) c.in_err-run.field-0.0 r)
    (restored passes_Q c.args.net.now.net (seen_report c.args.report.now)
    (seen_flow c.in_ok-flow.flow) c.in_ok-last.last c.in_ok-flow.ensures c.in_ok-last.ensures) c.in_err-run.ensures.list)

pub returns-clause-list : goal.returns-clause-list
returns-clause-list c =
    sym (restored passes_Q c.args.net.now.net (seen_report c.args.report.now)
    (seen_flow c.in_ok-flow.flow) c.in_ok-last.last c.in_ok-flow.ensures c.in_ok-last.ensures) ∙ c.in_ok-run.ensures.list

pub returns-clause-time : goal.returns-clause-time
returns-clause-time c =
    ap (λ (f : Flow). f.reached) c.in_ok-run.ensures.flow
    ∙ (cut_flow-is passes_Q c.args.net.now.net (seen_flow c.args.report.now.flow) (seen_flow c.in_ok-flow.flow) c.recall.ensures.network c.requires.equilibrium
    (was_ok OfCurve (cut_flow passes_Q c.args.net.now.net (seen_flow c.args.report.now.flow)) (seen_flow c.in_ok-flow.flow) c.in_ok-flow.ensures)).reached

pub returns-clause-reaches : goal.returns-clause-reaches
returns-clause-reaches c = let run = c.in_ok-run.ensures {u = tt} in run.state.reaches
