use Rattle.std.proofs.Common.{length, arith}
use Rattle.nf_complete_conditions.proofs.Stating.{states_first, states_more, states_whole, IsSettledPattern-made}
use Rattle.nf_complete_conditions.proofs.states.settled_pattern.Goals as goal

pub loop-e-init : goal.loop-e-init
loop-e-init c =
    states_first c.args.net.now.net c.args.sets.now c.args.flows.now c.args.slopes.now c.in_ok-pattern.pattern c.link_count.result c.in_ok-pattern.ensures
    c.link_count.ensures

pub loop-e-preserved : goal.loop-e-preserved
loop-e-preserved c =
    rw (c.set.ensures) (states_more c.args.net.now.net c.args.sets.now c.args.flows.now c.args.slopes.now c.loop-e.e c.loop-e.pattern
    c.state_at-state.result (omega arith) c.loop-e.invariant c.state_at-state.ensures)

pub returns : goal.returns
returns c = IsSettledPattern-made c.args.net.now.net c.args.sets.now c.args.flows.now c.args.slopes.now c.loop-e.pattern
    (states_whole c.args.net.now.net c.args.sets.now c.args.flows.now c.args.slopes.now c.loop-e.e (length c.args.net.now.net.links) c.loop-e.pattern
    (omega arith) c.loop-e.invariant) c.requires.sets
