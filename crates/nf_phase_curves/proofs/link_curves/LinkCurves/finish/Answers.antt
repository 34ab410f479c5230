use Rattle.std.proofs.Common.{ap, ◌∙◌}
use Rattle.nf_phase_curves.proofs.Common.{IfOk-from_err, LinkCurves, Roomy}
use Rattle.nf_phase_curves.proofs.link_curves.LinkCurves.finish.Goals as goal

pub returns-in_err-finish-3-clause-inflow : goal.returns-in_err-finish-3-clause-inflow
returns-in_err-finish-3-clause-inflow c = IfOk-from_err c.from_residual-in_err-finish-3.result _ c.from_residual-in_err-finish-3.ensures.0

pub returns-in_err-finish-3-clause-outflow : goal.returns-in_err-finish-3-clause-outflow
returns-in_err-finish-3-clause-outflow c = IfOk-from_err c.from_residual-in_err-finish-3.result _ c.from_residual-in_err-finish-3.ensures.0

pub returns-in_err-finish-3-clause-queue : goal.returns-in_err-finish-3-clause-queue
returns-in_err-finish-3-clause-queue c = IfOk-from_err c.from_residual-in_err-finish-3.result _ c.from_residual-in_err-finish-3.ensures.0

pub returns-clause-inflow : goal.returns-clause-inflow
returns-clause-inflow c = c.in_ok-finish.ensures ∙ ap (λ (r : Roomy LinkCurves). r.grown.inflow) c.self.view_is

pub returns-clause-outflow : goal.returns-clause-outflow
returns-clause-outflow c = c.in_ok-finish-2.ensures ∙ ap (λ (r : Roomy LinkCurves). r.grown.outflow) c.self.view_is

pub returns-clause-queue : goal.returns-clause-queue
returns-clause-queue c = c.in_ok-finish-3.ensures ∙ ap (λ (r : Roomy LinkCurves). r.grown.queue.points) c.self.view_is
