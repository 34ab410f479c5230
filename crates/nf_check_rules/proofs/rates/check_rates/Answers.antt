use Rattle.std.proofs.Common.{◌<◌, ◌≤◌, length, arith}
use Rattle.nf_check_rules.proofs.Common.{err_from_is_err_and, passes_Q, link_rates, seen_flow}
use Rattle.nf_check_rules.proofs.Looping.{below_first, below_ends, below_goes, below_last}
use Rattle.nf_check_rules.proofs.rates.check_rates.Goals as goal

pub loop-number-init : goal.loop-number-init
loop-number-init c = below_first (link_rates passes_Q c.args.net.now.net (seen_flow c.args.flow.now)) (length c.args.net.now.net.links)

pub returns-in_err-check_link_rates : goal.returns-in_err-check_link_rates
returns-in_err-check_link_rates c =
    let p = err_from_is_err_and c.from_residual.result c.from_residual.ensures.1 in
    let inside : c.loop-number.number < length c.args.net.now.net.links = omega arith in
    rw (p.1, p.2) (below_ends (link_rates passes_Q c.args.net.now.net (seen_flow c.args.flow.now))
    (length c.args.net.now.net.links) c.loop-number.number c.loop-number.invariant inside c.in_err-check_link_rates.field-0.0
    (c.in_err-check_link_rates.ensures c.args.net.now.net))

pub loop-number-preserved : goal.loop-number-preserved
loop-number-preserved c =
    let inside : c.loop-number.number < length c.args.net.now.net.links = omega arith in
    below_goes (link_rates passes_Q c.args.net.now.net (seen_flow c.args.flow.now))
    (length c.args.net.now.net.links) c.loop-number.number c.loop-number.invariant inside tt (c.in_ok-check_link_rates.ensures c.args.net.now.net)

pub returns : goal.returns
returns c =
    let past : length c.args.net.now.net.links ≤ c.loop-number.number = omega arith in
    below_last (link_rates passes_Q c.args.net.now.net (seen_flow c.args.flow.now)) (length c.args.net.now.net.links) c.loop-number.number c.loop-number.invariant past
