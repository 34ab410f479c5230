use Rattle.std.proofs.Common.{◌+◌, arith}
use Rattle.nf_thin_narrow.proofs.Stepping.{changes_step_at}
use Rattle.nf_thin_narrow.proofs.row.count_changes.Goals as goal

pub loop-e-preserved : goal.loop-e-preserved
loop-e-preserved c =
    let step = changes_step_at c.args.base.now c.args.pattern.now c.loop-e.e (c.loop-e.e + 1) c.state.result c.state-in-loop-e.result
    (omega arith) c.state.ensures c.state-in-loop-e.ensures in
    let value = c.change-count.ensures.value in
    let small = c.change-count.ensures.small in
    record { counted = (let k = c.loop-e.invariant.counted in omega arith); small = (let k = c.loop-e.invariant.small in omega arith) }
