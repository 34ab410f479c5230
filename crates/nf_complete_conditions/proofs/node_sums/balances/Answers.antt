use Rattle.std.proofs.Common.{arith, Ok}
use Rattle.nf_complete_conditions.proofs.Common.{range_with_len, length-range_with_len, err_from_is_err_and, passes_Q, each, sums_at, slice_get-below}
use Rattle.nf_complete_conditions.proofs.Common.{IsBalanced}
use Rattle.nf_complete_conditions.proofs.Telling.{each_node, node_each, tells_like, told_more, told_stops, told_all}
use Rattle.nf_complete_conditions.proofs.node_sums.balances.Goals as goal

pub returns-in_err-here : goal.returns-in_err-here
returns-in_err-here c =
    let p = err_from_is_err_and c.from_residual.result c.from_residual.ensures.1 in
    rw (p.1, p.2) (told_stops (sums_at passes_Q c.args.net.now.net c.args.sets.now c.args.rate c.args.flows.now)
    (IsBalanced c.args.net.now.net c.args.sets.now c.args.rate c.args.flows.now)
    (range_with_len 0 c.args.net.now.net.nodes) c.loop-v.v c.loop-v.v (slice_get-below c.args.net.now.net.nodes c.loop-v.v (omega arith)) c.loop-v.all
    c.loop-v.invariant c.in_err-here.field-0.0 c.in_err-here.ensures)

pub loop-v-preserved : goal.loop-v-preserved
loop-v-preserved c = rw (c.both-all.ensures) (told_more (sums_at passes_Q c.args.net.now.net c.args.sets.now c.args.rate c.args.flows.now)
    (IsBalanced c.args.net.now.net c.args.sets.now c.args.rate c.args.flows.now) (range_with_len 0 c.args.net.now.net.nodes)
    c.loop-v.v c.loop-v.v (slice_get-below c.args.net.now.net.nodes c.loop-v.v (omega arith)) c.loop-v.all c.loop-v.invariant c.in_ok-here.here c.in_ok-here.ensures)

pub returns : goal.returns
returns c = tells_like (each (sums_at passes_Q c.args.net.now.net c.args.sets.now c.args.rate c.args.flows.now) (range_with_len 0 c.args.net.now.net.nodes)) (Ok c.loop-v.all)
    (each_node (IsBalanced c.args.net.now.net c.args.sets.now c.args.rate c.args.flows.now) c.args.net.now.net.nodes)
    (node_each (IsBalanced c.args.net.now.net c.args.sets.now c.args.rate c.args.flows.now) c.args.net.now.net.nodes)
    (told_all (sums_at passes_Q c.args.net.now.net c.args.sets.now c.args.rate c.args.flows.now) (IsBalanced c.args.net.now.net c.args.sets.now c.args.rate c.args.flows.now)
    (range_with_len 0 c.args.net.now.net.nodes) c.loop-v.v c.loop-v.all (let n = length-range_with_len 0 c.args.net.now.net.nodes in omega arith) c.loop-v.invariant)
