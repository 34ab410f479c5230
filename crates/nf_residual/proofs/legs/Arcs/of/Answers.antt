use Rattle.nf_residual.proofs.Chaining.{chains_step, chains_all}
use Rattle.nf_residual.proofs.legs.Arcs.of.Goals as goal

pub loop-left-preserved : goal.loop-left-preserved
loop-left-preserved c = chains_step c.args.nodes c.args.legs.items c.loop-left.first.items c.loop-left.next.items c.loop-left.left c.loop-left.invariant c.requires c.loop-left-test.true
    c.index.result.now c.index.ensures c.index-begin.result c.index-begin.ensures c.index-in-loop-left.result.now c.index-in-loop-left.ensures

pub returns-clause-chains : goal.returns-clause-chains
returns-clause-chains c = chains_all c.args.nodes c.args.legs.items c.loop-left.first.items c.loop-left.next.items c.loop-left.left c.loop-left.invariant c.loop-left-test.false
