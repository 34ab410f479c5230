use Rattle.std.proofs.Common.{◌<◌, ◌-◌, length, sym, ◌∙◌, arith}
use Rattle.nf_curve.proofs.Common.{slice_get-get_or}
use Rattle.nf_curve.proofs.Placing.{not-yet}
use Rattle.nf_curve.proofs.places.place_down.Goals as goal

pub returns-else-is_below : goal.returns-else-is_below
returns-else-is_below c =
    let b : c.loop-place.place - 1 < length c.args.points.now = omega (arith, c.loop-place.invariant) in
    let g = slice_get-get_or c.args.points.now (c.loop-place.place - 1) c.index-points-place.result b in
    let h = not-yet c.args.time c.args.points.now (c.loop-place.place - 1) _ c.requires.rise g (sym c.is_below.ensures ∙ c.if-is_below.false) in
    omega arith
