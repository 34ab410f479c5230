use Rattle.std.proofs.Common.{◌++◌, length, refl}
use Rattle.nf_forever.proofs.Common.{for_each, gathered_next, gathered_failed, slope_line, flow_line, tail_in}
use Rattle.nf_forever.proofs.tail_lines.put_tail.Goals as goal

pub returns-in_err-put_slopes : goal.returns-in_err-put_slopes
returns-in_err-put_slopes g c =
    let slopes = for_each c.args.net.now.net.nodes (slope_line c.args.net.now (tail_in c.args.tail.now)) in
    let flows = for_each (length c.args.net.now.net.links) (flow_line c.args.net.now (tail_in c.args.tail.now)) in
    gathered_failed slopes flows (slopes ++ flows) _ refl c.from_residual.ensures.0 c.in_err-put_slopes.ensures

pub returns : goal.returns
returns g c =
    let slopes = for_each c.args.net.now.net.nodes (slope_line c.args.net.now (tail_in c.args.tail.now)) in
    let flows = for_each (length c.args.net.now.net.links) (flow_line c.args.net.now (tail_in c.args.tail.now)) in
    gathered_next slopes flows (slopes ++ flows) refl c.in_ok-put_slopes.ensures c.put_flows.ensures
