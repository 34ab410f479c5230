use Rattle.std.proofs.Common.{sym, ◌∙◌, arith}
use Rattle.nf_curve.proofs.Common.{slice_get-get_or}
use Rattle.nf_curve.proofs.Placing.{place_within, not-yet, too-far}
use Rattle.nf_curve.proofs.places.place_up.Goals as goal

pub loop-place-preserved : goal.loop-place-preserved
loop-place-preserved c =
    let g = slice_get-get_or c.args.points.now c.loop-place.place c.index-points-place.result c.loop-place-test.true in
    let h = not-yet c.args.time c.args.points.now c.loop-place.place _ c.requires.rise g (sym c.is_below.ensures ∙ c.if-not-is_below.true) in
    omega arith

pub returns-else-not-is_below : goal.returns-else-not-is_below
returns-else-not-is_below c =
    let g = slice_get-get_or c.args.points.now c.loop-place.place c.index-points-place.result c.loop-place-test.true in
    let h = too-far c.args.time c.args.points.now c.loop-place.place _ g (sym c.is_below.ensures ∙ c.if-not-is_below.false) in
    omega (arith, c.loop-place.invariant)

pub returns-after-loop-place : goal.returns-after-loop-place
returns-after-loop-place c = let h = place_within c.args.time c.args.points.now in omega (arith, c.loop-place.invariant)
