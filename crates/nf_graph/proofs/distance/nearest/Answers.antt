use Rattle.nf_graph.proofs.Offering.{nearest_more, nearest_all}
use Rattle.nf_graph.proofs.distance.nearest.Goals as goal

pub loop-v-preserved : goal.loop-v-preserved
loop-v-preserved c =
    nearest_more c.args.sums.now c.args.offers.now c.loop-v.v c.loop-v.best c.step_to.result c.nearer-best.result c.loop-v.invariant c.step_to.ensures
    c.nearer-best.ensures

pub returns : goal.returns
returns c = nearest_all c.args.sums.now c.args.offers.now c.loop-v.v c.loop-v.best c.loop-v-test.false c.loop-v.invariant
