use Rattle.std.proofs.Common.{arith}
use Rattle.nf_complete_conditions.proofs.Common.{err_from_is_err_and, passes_Q, Verdict, entry, full_at, one_more, one_passes, all_done}
use Rattle.nf_complete_def.specs.Cancelling.{fulls_list}
use Rattle.nf_complete_conditions.proofs.filled.fulls.Goals as goal

pub returns-in_err-full : goal.returns-in_err-full
unfolding fulls_list
returns-in_err-full c =
    let p = err_from_is_err_and c.from_residual.result c.from_residual.ensures.1 in
    let here = entry c.args.net.now.net.links c.loop-e.e (omega arith) in
    rw (p.1, p.2) (one_passes (full_at passes_Q c.args.sets.now c.args.slopes.now) c.args.net.now.net.links c.loop-e.fulls.items c.loop-e.e here.0 here.1
    c.loop-e.invariant Verdict c.in_err-full.field-0.0 (c.in_err-full.ensures here.0 here.1))

pub loop-e-preserved : goal.loop-e-preserved
loop-e-preserved c =
    let here = entry c.args.net.now.net.links c.loop-e.e (omega arith) in
    rw (c.in_ok-push.ensures.items) (one_more (full_at passes_Q c.args.sets.now c.args.slopes.now) c.args.net.now.net.links c.loop-e.fulls.items c.loop-e.e here.0 here.1
    c.loop-e.invariant Verdict c.in_ok-full.full (c.in_ok-full.ensures here.0 here.1))

pub returns : goal.returns
unfolding fulls_list
returns c = all_done (full_at passes_Q c.args.sets.now c.args.slopes.now) c.args.net.now.net.links Verdict c.loop-e.fulls.items c.loop-e.e (omega arith) c.loop-e.invariant
