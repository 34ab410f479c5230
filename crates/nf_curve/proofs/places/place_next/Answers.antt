use Rattle.std.proofs.Common.{◌<◌, length, get_or, sym, ◌∙◌, arith}
use Rattle.nf_curve.proofs.Common.{slice_get-get_or}
use Rattle.nf_curve.proofs.Placing.{curve-rises, place-ended, place-there, place-apart}
use Rattle.nf_curve.proofs.places.place_next.Goals as goal

pub returns-then-place-points : goal.returns-then-place-points
returns-then-place-points c = place-ended c.args.time c.args.points.now c.args.place c.requires.from (omega arith)

pub returns-then-is_same : goal.returns-then-is_same
returns-then-is_same c =
    let d : c.args.place < length c.args.points.now = omega arith in
    place-there c.args.time c.args.points.now c.args.place (get_or c.args.points.now c.args.place c.index-points-place.result) (curve-rises c.args.points.now c.requires.curve)
    (slice_get-get_or c.args.points.now c.args.place c.index-points-place.result d) (sym c.is_same.ensures ∙ c.if-is_same.true)

pub returns-else-is_same : goal.returns-else-is_same
returns-else-is_same c =
    let d : c.args.place < length c.args.points.now = omega arith in
    place-apart c.args.time c.args.points.now c.args.place (get_or c.args.points.now c.args.place c.index-points-place.result) c.requires.from c.requires.next
    (slice_get-get_or c.args.points.now c.args.place c.index-points-place.result d) (sym c.is_same.ensures ∙ c.if-is_same.false)
