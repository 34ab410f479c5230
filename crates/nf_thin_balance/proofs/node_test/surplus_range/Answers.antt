use Rattle.std.proofs.Common.{◌<◌, ◌≤◌, suc, length, subst, arith}
use Rattle.nf_thin_balance.proofs.Common.{IsInRange}
use Rattle.nf_thin_balance.proofs.Conserving.{none_sent, surplus_of_all}
use Rattle.nf_thin_balance.proofs.LinksAt.{passed}
use Rattle.nf_thin_balance.proofs.node_test.surplus_range.Goals as goal

pub loop-link-init : goal.loop-link-init
loop-link-init c = record {
  within = c.first-link.ensures.within;
  so_far = passed c.args.net.now.net c.args.ranges.now c.args.node 0 c.zero-range.result
      (λ flow within. subst (IsInRange c.zero-range.result) (none_sent c.args.net.now.net flow c.args.node) c.zero-range.ensures) c.first-link.result c.first-link.ensures;
}

pub loop-link-preserved : goal.loop-link-preserved
loop-link-preserved c = record {
  within = c.next-link.ensures.within;
  so_far = passed c.args.net.now.net c.args.ranges.now c.args.node (suc c.loop-link.link) c.add_link.new.range c.add_link.ensures c.next-link.result c.next-link.ensures;
}

pub loop-link-smaller : goal.loop-link-smaller
loop-link-smaller c =
    let b : c.loop-link.link < length c.args.net.now.net.links = (let n = c.link_count.ensures in let t = c.loop-link-test.true in omega arith) in
    let later : suc c.loop-link.link ≤ c.next-link.result = c.next-link.ensures.later in
    omega arith

pub returns : goal.returns
returns c flow within = subst (IsInRange c.loop-link.range)
    (surplus_of_all c.args.net.now.net flow c.args.node c.loop-link.link (let n = c.link_count.ensures in let t = c.loop-link-test.false in omega arith))
    (c.loop-link.invariant.so_far flow within)
