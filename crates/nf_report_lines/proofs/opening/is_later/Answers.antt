use Rattle.std.proofs.Common.{◌-◌, ◌∙◌, arith}
use Rattle.nf_report_lines.proofs.LastPoints.{later_than_last}
use Rattle.nf_report_lines.proofs.opening.is_later.Goals as goal

pub returns : goal.returns
returns c =
    c.is_below.ensures
    ∙ later_than_last c.args.curve.now.points (c.len.result - 1) c.point-last.result c.args.time c.point-last.ensures (omega (arith, c.len.ensures.count, c.len.ensures.some))
