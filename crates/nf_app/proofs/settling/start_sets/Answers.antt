use Rattle.nf_app.proofs.Common.{err_from_is_err_and}
use Rattle.nf_graph.proofs.NetworkHops.{below_nodes}
use Rattle.nf_app.proofs.SettleCalls.{slacks_stopped, sets_there}
use Rattle.nf_app.proofs.settling.start_sets.Goals as goal

pub slacks-requires : goal.slacks-requires
slacks-requires c = rw (c.deref.ensures.value, c.hops.ensures.value, c.in_ok-labels.ensures.count) (below_nodes c.args.net.now.net c.hops.ensures.named.network)

pub returns-in_err-labels : goal.returns-in_err-labels
returns-in_err-labels c =
    let p = err_from_is_err_and c.from_residual.result c.from_residual.ensures.1 in
    rw (p.1, p.2) tt

pub returns-in_err-slacks : goal.returns-in_err-slacks
returns-in_err-slacks c =
    let p = err_from_is_err_and c.from_residual-in_err-slacks.result c.from_residual-in_err-slacks.ensures.1 in
    rw (p.1, p.2) (slacks_stopped c.args.net.now.net c.in_ok-labels.labels.items c.in_ok-labels.ensures c.hops.result.now c.deref.result.now c.hops.ensures.value c.deref.ensures.value
    c.in_err-slacks.field-0.0 c.in_err-slacks.ensures.list)

pub returns-in_err-sets : goal.returns-in_err-sets
returns-in_err-sets c =
    let p = err_from_is_err_and c.from_residual-in_err-sets.result c.from_residual-in_err-sets.ensures.1 in
    rw (p.1, p.2) tt

pub returns : goal.returns
returns c = sets_there c.args.net.now.net c.in_ok-labels.labels.items c.in_ok-labels.ensures c.hops.result.now c.deref.result.now c.hops.ensures.value c.deref.ensures.value
    c.in_ok-slacks.slacks.items c.deref-2.result.now c.in_ok-sets.sets c.in_ok-slacks.ensures.list c.deref-2.ensures.value c.in_ok-sets.ensures
