use Rattle.std.proofs.Common.{◌≡◌, ℕ, ◌+◌, ◌-◌, ◌≤◌, map, subst, arith}
use Rattle.nf_gen.proofs.Common.{range_with_len, rung_at, WritesLinks}
use Rattle.nf_gen.proofs.Written.{down_more}
use Rattle.nf_gen.proofs.rails.push_rungs.Goals as goal

pub loop-index-preserved : goal.loop-index-preserved
loop-index-preserved c =
    down_more c.loop-index.index c.args.out.now.items c.loop-index.out.items c.push_rung.new.out.items
    c.args.draws.now c.loop-index.draws c.push_rung.new.draws c.loop-index.auto.index c.loop-index.invariant c.in_ok-push_rung.ensures

pub returns : goal.returns
returns c =
    let some : 1 ≤ c.args.rungs + 1 = omega arith in
    let up_to = c.loop-index.auto.index-end some in
    let count : c.loop-index.index - 1 ≡ c.args.rungs = omega arith in
    subst (λ (n : ℕ). WritesLinks (map rung_at (range_with_len 1 n)) c.args.out.now.items c.loop-index.out.items c.args.draws.now c.loop-index.draws) count c.loop-index.invariant
