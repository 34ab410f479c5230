use Rattle.std.proofs.Common.{◌<◌, ◌≤◌, length, arith}
use Rattle.nf_check_rules.proofs.Common.{err_from_is_err_and, outflow_rule, in_view}
use Rattle.nf_check_rules.proofs.Looping.{links_first, links_end, links_go, links_done, link_there}
use Rattle.nf_check_rules.proofs.told.check_outflows.Goals as goal

pub loop-number-init : goal.loop-number-init
loop-number-init c = links_first (in_view outflow_rule c.args.worked.now) c.args.worked.now.net.now.net.links

pub returns-in_err-check_outflow : goal.returns-in_err-check_outflow
returns-in_err-check_outflow c =
    let p = err_from_is_err_and c.from_residual.result c.from_residual.ensures.1 in
    let inside : c.loop-number.number < length c.args.worked.now.net.now.net.links = omega arith in
    let there = link_there c.args.worked.now.net.now.net.links c.loop-number.number inside in
    rw (p.1, p.2) (links_end (in_view outflow_rule c.args.worked.now) c.args.worked.now.net.now.net.links c.loop-number.number c.loop-number.invariant
    there.link there.is c.in_err-check_outflow.field-0.0 (c.in_err-check_outflow.ensures there.link there.is))

pub loop-number-preserved : goal.loop-number-preserved
loop-number-preserved c =
    let inside : c.loop-number.number < length c.args.worked.now.net.now.net.links = omega arith in
    let there = link_there c.args.worked.now.net.now.net.links c.loop-number.number inside in
    links_go (in_view outflow_rule c.args.worked.now) c.args.worked.now.net.now.net.links c.loop-number.number c.loop-number.invariant there.link there.is
    tt (c.in_ok-check_outflow.ensures there.link there.is)

pub returns : goal.returns
returns c =
    let past : length c.args.worked.now.net.now.net.links ≤ c.loop-number.number = omega arith in
    links_done (in_view outflow_rule c.args.worked.now) c.args.worked.now.net.now.net.links c.loop-number.number c.loop-number.invariant past
