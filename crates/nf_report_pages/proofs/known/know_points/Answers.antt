use Rattle.std.proofs.Common.{◌≤◌, length, arith}
use Rattle.nf_report_pages.proofs.Common.{IsFractionPoint}
use Rattle.nf_report_pages.proofs.Entries.{one_more, up_to_end}
use Rattle.nf_report_pages.proofs.known.know_points.Goals as goal

pub loop-index-preserved : goal.loop-index-preserved
loop-index-preserved c =
    one_more IsFractionPoint c.args.curve.now.points c.loop-index.index c.point-here.result c.point-here.ensures (c.recall.ensures, c.recall-in-loop-index.ensures) c.loop-index.invariant

pub returns : goal.returns
returns c =
    let all : length c.args.curve.now.points ≤ c.loop-index.index = omega arith in
    up_to_end IsFractionPoint c.args.curve.now.points c.loop-index.index all c.loop-index.invariant
