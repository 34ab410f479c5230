use Rattle.std.proofs.Common.{◌≡◌, arith, None, get_or}
use Rattle.nf_pattern.proofs.Common.{change}
use Rattle.nf_pattern.proofs.Counting.{free_at, free_end}
use Rattle.nf_pattern.proofs.assignments.count_free.Goals as goal

pub loop-i-preserved : goal.loop-i-preserved
loop-i-preserved c =
    let here = free_at c.args.base.now c.loop-i.i (omega arith) in
    let v : c.change-count.result ≡ change None (get_or c.args.base.now c.loop-i.i None) = c.change-count.ensures.value in
    let s = c.change-count.ensures.small in
    record { counted = (let k = c.loop-i.invariant.counted in omega arith); small = (let k = c.loop-i.invariant.small in omega arith) }

pub returns : goal.returns
returns c = let end = free_end c.args.base.now c.loop-i.i (omega arith) in let k = c.loop-i.invariant.counted in omega arith
