use Rattle.std.proofs.Common.{List, length, ap, subst, ◌∙◌, add-one, arith}
use Rattle.nf_thin_balance.proofs.Common.{length-replicate, Range, IsInRange}
use Rattle.nf_thin_balance.proofs.Conserving.{none_sent}
use Rattle.nf_thin_balance.proofs.Balances.{each_first, each_last}
use Rattle.nf_thin_balance.proofs.node_test.surplus_ranges.Goals as goal

pub loop-e-init : goal.loop-e-init
loop-e-init c = record {
  count =
      ap (λ (l : List Range). length l) (c.in_ok-nodes.ensures.items_if_clones_equal (λ y e. e))
      ∙ (length-replicate c.node_count.result c.zero-nothing.result ∙ c.node_count.ensures);
  each = each_first c.args.net.now.net c.args.ranges.now c.in_ok-nodes.nodes.items c.node_count.result c.zero-nothing.result (c.in_ok-nodes.ensures.items_if_clones_equal (λ y e. e))
      (λ flow v. subst (IsInRange c.zero-nothing.result) (none_sent c.args.net.now.net flow v) c.zero-nothing.ensures);
}

pub loop-e-preserved : goal.loop-e-preserved
loop-e-preserved c = record { count = c.add_to_ends.ensures.count; each = rw (add-one c.loop-e.e) c.add_to_ends.ensures.more }

pub add_to_ends-requires-clause-nodes : goal.add_to_ends-requires-clause-nodes
add_to_ends-requires-clause-nodes c = c.loop-e.invariant.count

pub add_to_ends-requires-clause-before : goal.add_to_ends-requires-clause-before
add_to_ends-requires-clause-before c = c.loop-e.invariant.each

pub returns-clause-each : goal.returns-clause-each
returns-clause-each c flow within = each_last c.args.net.now.net c.args.ranges.now c.loop-e.nodes.items c.loop-e.e flow
    (let n = c.link_count-e-end.ensures in let t = c.loop-e-test.false in omega arith) c.loop-e.invariant.each within

pub returns-clause-count : goal.returns-clause-count
returns-clause-count c = c.loop-e.invariant.count
