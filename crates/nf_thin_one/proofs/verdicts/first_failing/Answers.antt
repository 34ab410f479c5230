use Rattle.std.proofs.Common.{arith}
use Rattle.nf_thin_one.proofs.Common.{err_from_is_err_and, passes_Q}
use Rattle.nf_thin_one.proofs.Concluding.{loop_goes_on, loop_stops, loop_ends}
use Rattle.nf_thin_one.proofs.verdicts.first_failing.Goals as goal

pub returns-in_err-keeps : goal.returns-in_err-keeps
returns-in_err-keeps c =
    let p = err_from_is_err_and c.from_residual.result c.from_residual.ensures.1 in
    rw (p.1, p.2) (loop_stops passes_Q c.args.net.now.net c.args.pattern.now c.args.flows.now c.args.slopes.now c.loop-e.found c.loop-e.e (omega arith) c.loop-e.invariant
    c.in_err-keeps.field-0.0 c.in_err-keeps.ensures)

pub loop-e-preserved : goal.loop-e-preserved
loop-e-preserved c =
    rw (c.first_after-found.ensures) (loop_goes_on passes_Q c.args.net.now.net c.args.pattern.now c.args.flows.now c.args.slopes.now c.loop-e.found
    c.loop-e.e (omega arith) c.loop-e.invariant
    c.in_ok-keeps.keeps c.in_ok-keeps.ensures)

pub returns : goal.returns
returns c = loop_ends passes_Q c.args.net.now.net c.args.pattern.now c.args.flows.now c.args.slopes.now c.loop-e.found c.loop-e.e (omega arith) c.loop-e.invariant
