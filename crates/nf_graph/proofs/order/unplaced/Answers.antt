use Rattle.std.proofs.Common.{below_more}
use Rattle.nf_graph.proofs.Common.{Has}
use Rattle.nf_graph.proofs.Flags.{Has_from_read, not_Has_from_read}
use Rattle.nf_graph.proofs.order.unplaced.Goals as goal

pub returns-then-not-is_placed : goal.returns-then-not-is_placed
returns-then-not-is_placed c = (c.loop-v-test.true, not_Has_from_read c.args.placed.now c.loop-v.v c.if-not-is_placed.true)

pub loop-v-preserved : goal.loop-v-preserved
loop-v-preserved c = below_more (Has c.args.placed.now) c.loop-v.v c.loop-v.invariant (Has_from_read c.args.placed.now c.loop-v.v c.if-not-is_placed.false)
