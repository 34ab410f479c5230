use Rattle.std.proofs.Common.{◌<◌, length, refl, arith}
use Rattle.nf_complete_cycles.proofs.Common.{slice_get_read, err_from_is_err_and, passes_Q, Verdict, change_at, one_more, one_passes, all_done}
use Rattle.nf_complete_cycles.proofs.cancelling.changes.Goals as goal

pub returns-in_err-next : goal.returns-in_err-next
returns-in_err-next c =
    let p = err_from_is_err_and c.from_residual.result c.from_residual.ensures.1 in
    let inside : c.loop-e.e < length c.args.flows.now = omega arith in
    rw (p.1, p.2) (one_passes (change_at passes_Q c.args.steps.now c.args.amount) c.args.flows.now c.loop-e.new.items c.loop-e.e c.index-flows-e.result
    (slice_get_read c.args.flows.now _ c.loop-e.e c.index-flows-e.result refl inside c.index-flows-e.is) c.loop-e.invariant Verdict c.in_err-next.field-0.0 c.in_err-next.ensures)

pub loop-e-preserved : goal.loop-e-preserved
loop-e-preserved c =
    let inside : c.loop-e.e < length c.args.flows.now = omega arith in
    rw (c.in_ok-push.ensures.items) (one_more (change_at passes_Q c.args.steps.now c.args.amount) c.args.flows.now c.loop-e.new.items c.loop-e.e c.index-flows-e.result
    (slice_get_read c.args.flows.now _ c.loop-e.e c.index-flows-e.result refl inside c.index-flows-e.is) c.loop-e.invariant Verdict c.in_ok-next.next c.in_ok-next.ensures)

pub returns : goal.returns
returns c = all_done (change_at passes_Q c.args.steps.now c.args.amount) c.args.flows.now Verdict c.loop-e.new.items c.loop-e.e c.loop-e-test.false c.loop-e.invariant
