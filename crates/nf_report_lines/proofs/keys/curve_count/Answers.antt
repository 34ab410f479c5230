use Rattle.std.proofs.Common.{arith}
use Rattle.nf_report_lines.proofs.KeyNumbers.{curves_counted}
use Rattle.nf_report_lines.proofs.keys.curve_count.Goals as goal

pub returns : goal.returns
returns c =
    let k = curves_counted c.args.net.now c.recall.ensures in
    omega (arith, k, c.node_count.ensures, c.idle_count.ensures, c.link_count.ensures)
