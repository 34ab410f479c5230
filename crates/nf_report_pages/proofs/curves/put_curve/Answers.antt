use Rattle.std.proofs.Common.{◌≤◌, [], ◌∷◌, ◌+◌, length, take, drop, suc, ap, arith}
use Rattle.nf_report_pages.proofs.Common.{take_all, point_lines, written_point}
use Rattle.nf_report_pages.proofs.Parts.{point_lines_next, point_lines_left}
use Rattle.nf_report_pages.proofs.Gathering.{gathered_nil, gathered_next, gathered_then_failed, same_gathered}
use Rattle.nf_report_pages.proofs.curves.put_curve.Goals as goal

pub loop-index-init : goal.loop-index-init
loop-index-init g c = gathered_nil

pub loop-index-preserved : goal.loop-index-preserved
loop-index-preserved g c =
    gathered_next (point_lines c.args.key.now c.args.name.now (take c.loop-index.index c.args.curve.now.points)) (written_point c.args.key.now c.args.name.now c.point.result ∷ [])
    (point_lines c.args.key.now c.args.name.now (take (c.loop-index.index + 1) c.args.curve.now.points))
    (point_lines_next c.args.key.now c.args.name.now c.args.curve.now.points c.loop-index.index c.point.result c.point.ensures)
    c.loop-index.invariant c.in_ok-put_point.ensures

pub returns-in_err-put_point : goal.returns-in_err-put_point
returns-in_err-put_point g c =
    gathered_then_failed (point_lines c.args.key.now c.args.name.now (take c.loop-index.index c.args.curve.now.points)) (written_point c.args.key.now c.args.name.now c.point.result ∷ [])
    (point_lines c.args.key.now c.args.name.now (drop (suc c.loop-index.index) c.args.curve.now.points)) (point_lines c.args.key.now c.args.name.now c.args.curve.now.points) _
    (point_lines_left c.args.key.now c.args.name.now c.args.curve.now.points c.loop-index.index c.point.result c.point.ensures)
    c.from_residual.ensures.0 c.loop-index.invariant c.in_err-put_point.ensures

pub returns : goal.returns
returns g c =
    let points = c.args.curve.now.points in
    let all : length points ≤ c.loop-index.index = omega arith in
    same_gathered (point_lines c.args.key.now c.args.name.now (take c.loop-index.index points)) (point_lines c.args.key.now c.args.name.now points)
    (ap (point_lines c.args.key.now c.args.name.now) (take_all c.loop-index.index points all)) c.loop-index.invariant
