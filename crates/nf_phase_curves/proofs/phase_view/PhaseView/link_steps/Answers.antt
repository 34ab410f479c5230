use Rattle.std.proofs.Common.{arith}
use Rattle.nf_phase_curves.proofs.Common.{err_from_is_err_and, passes_Q, Curve, all_done}
use Rattle.nf_thin_def.specs.CurveList.{curve_list}
use Rattle.nf_phase_curves.proofs.LinkLoop.{numbered_step, no_step, one_step, step_passes}
use Rattle.nf_phase_curves.proofs.phase_view.PhaseView.link_steps.Goals as goal

pub returns-in_err-next : goal.returns-in_err-next
unfolding curve_list
returns-in_err-next c =
    let p = err_from_is_err_and c.from_residual.result c.from_residual.ensures.1 in
    rw (p.1, p.2) (step_passes passes_Q c.args.self.now.sets.now c.args.self.now.pattern.now c.args.self.now.length c.args.self.now.flows.now
    c.args.self.now.slopes.now c.args.self.now.labels.now c.args.amounts.now
    c.args.self.now.net.now.net c.loop-e.steps.items c.loop-e.e (omega arith) c.loop-e.invariant c.in_err-next.field-0.0 c.in_err-next.ensures)

pub loop-e-preserved : goal.loop-e-preserved
loop-e-preserved c =
    rw (c.in_ok-push.ensures.items) (one_step passes_Q c.args.self.now.sets.now c.args.self.now.pattern.now c.args.self.now.length c.args.self.now.flows.now
    c.args.self.now.slopes.now c.args.self.now.labels.now c.args.amounts.now
    c.args.self.now.net.now.net c.loop-e.steps.items c.loop-e.e (omega arith) c.loop-e.invariant c.in_ok-next.next c.in_ok-next.ensures)

pub returns : goal.returns
unfolding curve_list
returns c =
    all_done (numbered_step passes_Q c.args.self.now.sets.now c.args.self.now.pattern.now c.args.self.now.length c.args.self.now.flows.now
    c.args.self.now.slopes.now c.args.self.now.labels.now c.args.amounts.now) c.args.self.now.net.now.net.links Curve
    c.loop-e.steps.items c.loop-e.e (omega arith) c.loop-e.invariant

pub loop-e-init : goal.loop-e-init
loop-e-init c =
    no_step passes_Q c.args.self.now.sets.now c.args.self.now.pattern.now c.args.self.now.length c.args.self.now.flows.now c.args.self.now.slopes.now
    c.args.self.now.labels.now c.args.amounts.now
    c.args.self.now.net.now.net c.new-steps.result.items c.new-steps.ensures.items
