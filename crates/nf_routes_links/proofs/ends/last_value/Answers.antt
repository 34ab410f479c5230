use Rattle.std.proofs.Common.{◌-◌, sym, arith}
use Rattle.nf_routes_links.proofs.Greatest.{last_value-at}
use Rattle.nf_routes_links.proofs.ends.last_value.Goals as goal

pub returns : goal.returns
returns c =
    let count = c.len.ensures.count in
    let some = c.len.ensures.some in
    sym (last_value-at c.args.curve.now.points (c.len.result - 1) c.point-value.result c.point-value.ensures (omega arith))
