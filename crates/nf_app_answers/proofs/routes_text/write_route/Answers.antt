use Rattle.std.proofs.Common.{◌++◌, refl, codes}
use Rattle.nf_app_answers.proofs.Common.{point_lines, wrote_next, wrote_failed}
use Rattle.nf_app_answers.proofs.routes_text.write_route.Goals as goal

pub returns-in_err-write_curve : goal.returns-in_err-write_curve
returns-in_err-write_curve g c =
    let first = point_lines (codes "arrival") c.args.name.now c.args.arrival.now.points in
    let second = point_lines (codes "travel") c.args.name.now c.args.travel.now.points in
    wrote_failed first second (first ++ second) c.from_residual.result refl c.from_residual.ensures.0 c.in_err-write_curve.ensures

pub returns : goal.returns
returns g c =
    let first = point_lines (codes "arrival") c.args.name.now c.args.arrival.now.points in
    let second = point_lines (codes "travel") c.args.name.now c.args.travel.now.points in
    wrote_next first second (first ++ second) refl c.in_ok-write_curve.ensures c.write_curve-2.ensures
