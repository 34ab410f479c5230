use Rattle.std.proofs.Common.{subst, add-one, arith}
use Rattle.nf_thin_balance.proofs.Common.{IsInRange, scaled_flow}
use Rattle.nf_thin_balance.proofs.Conserving.{none_sent, surplus_of_all}
use Rattle.nf_thin_balance.proofs.stated.stated_surplus.Goals as goal

pub loop-e-init : goal.loop-e-init
loop-e-init c scale rate flows can = subst (IsInRange c.zero-range.result) (none_sent c.args.stated.now.net.now.net (scaled_flow scale flows) c.args.node) c.zero-range.ensures

pub loop-e-preserved : goal.loop-e-preserved
loop-e-preserved c scale rate flows can = rw (add-one c.loop-e.e) (c.with_link-range.ensures scale rate flows can (c.loop-e.invariant scale rate flows can))

pub returns : goal.returns
returns c scale rate flows can = subst (IsInRange c.loop-e.range)
    (surplus_of_all c.args.stated.now.net.now.net (scaled_flow scale flows) c.args.node c.loop-e.e (let n = c.link_count-e-end.ensures in let t = c.loop-e-test.false in omega arith))
    (c.loop-e.invariant scale rate flows can)
