use Rattle.nf_report_lines.proofs.LastPoints.{time_is_later}
use Rattle.nf_report_lines.proofs.draft.put_behind.Goals as goal

pub push-requires : goal.push-requires
push-requires c =
    time_is_later c.args.trace.now.curve.points c.args.point.now.time c.recall.ensures.some c.requires
