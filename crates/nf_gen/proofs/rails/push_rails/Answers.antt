use Rattle.std.proofs.Common.{◌≡◌, ℕ, ◌-◌, flat_map, subst, arith}
use Rattle.nf_gen.proofs.Common.{range_with_len, rails_on, WritesLinks}
use Rattle.nf_gen.proofs.Written.{along_more}
use Rattle.nf_gen.proofs.rails.push_rails.Goals as goal

pub loop-index-preserved : goal.loop-index-preserved
loop-index-preserved c =
    along_more c.loop-index.index c.loop-index.out.items c.push_rail.new.out.items c.push_rail-in-loop-index.new.out.items
    c.args.draws.now c.loop-index.draws c.push_rail.new.draws c.push_rail-in-loop-index.new.draws c.args.out.now.items
    c.loop-index.auto.index c.loop-index.invariant c.in_ok-push_rail.ensures c.in_ok-push_rail-2.ensures

pub returns : goal.returns
returns c =
    let up_to = c.loop-index.auto.index-end c.requires.some in
    let last : c.loop-index.index ≡ c.args.rungs = omega arith in
    subst (λ (n : ℕ). WritesLinks (flat_map rails_on (range_with_len 1 (n - 1))) c.args.out.now.items c.loop-index.out.items c.args.draws.now
    c.loop-index.draws) last c.loop-index.invariant
