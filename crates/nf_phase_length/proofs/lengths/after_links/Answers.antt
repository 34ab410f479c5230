use Rattle.std.proofs.Common.{arith}
use Rattle.nf_phase_length.proofs.Common.{err_from_is_err_and, passes_Q}
use Rattle.nf_phase_length.proofs.Looping.{one_more, one_passes, all_done}
use Rattle.nf_phase_length.proofs.lengths.after_links.Goals as goal

pub returns-in_err-least : goal.returns-in_err-least
returns-in_err-least c =
    let p = err_from_is_err_and c.from_residual.result c.from_residual.ensures.1 in
    rw (p.1, p.2) (one_passes passes_Q c.args.net.now.net c.args.slacks.now c.args.slopes.now c.loop-e.least c.loop-e.e
    (omega arith) c.loop-e.invariant c.in_err-least.field-0.0 c.in_err-least.ensures)

pub loop-e-preserved : goal.loop-e-preserved
loop-e-preserved c =
    one_more passes_Q c.args.net.now.net c.args.slacks.now c.args.slopes.now c.loop-e.least c.loop-e.e
    (omega arith) c.loop-e.invariant c.in_ok-least.least c.in_ok-least.ensures

pub returns : goal.returns
returns c = all_done passes_Q c.args.net.now.net c.args.slacks.now c.args.slopes.now c.loop-e.least c.loop-e.e (omega arith) c.loop-e.invariant
