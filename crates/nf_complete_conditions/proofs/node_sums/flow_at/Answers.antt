use Rattle.std.proofs.Common.{arith, Ok, Err}
use Rattle.nf_complete_conditions.proofs.Common.{err_from_is_err_and, 0ℚ, passes_Q, more_at}
use Rattle.nf_complete_conditions.proofs.Balancing.{more_told}
use Rattle.nf_complete_conditions.proofs.LinkByLink.{adds_on, adding_stops, adding_ends}
use Rattle.nf_complete_conditions.proofs.node_sums.flow_at.Goals as goal

pub returns-in_err-next : goal.returns-in_err-next
returns-in_err-next c = λ rate.
    let p = err_from_is_err_and c.from_residual.result c.from_residual.ensures.1 in
    rw (p.1, p.2) (adding_stops (more_at passes_Q c.args.net.now.net c.args.sets.now rate c.args.flows.now c.args.end c.args.node) c.args.net.now.net 0ℚ
    c.loop-e.so_far c.loop-e.e (omega arith)
    (c.loop-e.invariant rate) c.in_err-next.field-0.0
    (more_told passes_Q c.args.net.now.net c.args.sets.now rate c.args.flows.now (Err c.in_err-next.field-0.0) c.args.end c.args.node c.loop-e.so_far c.loop-e.e c.is_at-at_node.result
    (c.in_err-next.ensures c.args.net.now.net rate) c.is_at-at_node.ensures))

pub loop-e-preserved : goal.loop-e-preserved
loop-e-preserved c =
    λ rate. adds_on (more_at passes_Q c.args.net.now.net c.args.sets.now rate c.args.flows.now c.args.end c.args.node) c.args.net.now.net 0ℚ c.loop-e.so_far
    c.loop-e.e (omega arith)
    (c.loop-e.invariant rate) c.in_ok-next.next
    (more_told passes_Q c.args.net.now.net c.args.sets.now rate c.args.flows.now (Ok c.in_ok-next.next) c.args.end c.args.node c.loop-e.so_far c.loop-e.e c.is_at-at_node.result
    (c.in_ok-next.ensures c.args.net.now.net rate) c.is_at-at_node.ensures)

pub returns : goal.returns
returns c =
    λ rate. adding_ends (more_at passes_Q c.args.net.now.net c.args.sets.now rate c.args.flows.now c.args.end c.args.node) c.args.net.now.net 0ℚ
    c.loop-e.so_far c.loop-e.e (omega arith) (c.loop-e.invariant rate)
