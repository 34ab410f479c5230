use Rattle.std.proofs.Common.{◌<◌, ◌-◌, length, Some, refl, sym, ap, ◌∙◌, arith, None}
use Rattle.nf_curve.proofs.Common.{slice_get_read, slice_get_past, passes_Q, at_part}
use Rattle.nf_curve.proofs.Placing.{rise-pairs}
use Rattle.nf_curve.proofs.Turned.{turn-by}
use Rattle.nf_curve.proofs.differences.turns_before.Goals as goal

pub turns_at_end-requires : goal.turns_at_end-requires
turns_at_end-requires c =
    let a : c.args.place - 2 < length c.args.points.now = omega arith in
    let b : c.args.place - 1 < length c.args.points.now = omega arith in
    rise-pairs c.args.points.now (c.args.place - 2) (c.args.place - 1) c.index-points-place.result c.index-points-place-2.result c.requires.rise
    (slice_get_read c.args.points.now _ (c.args.place - 2) c.index-points-place.result refl a c.index-points-place.is)
    (slice_get_read c.args.points.now _ (c.args.place - 1) c.index-points-place-2.result refl b c.index-points-place-2.is) (omega arith)

pub turns_inside-requires-clause-before : goal.turns_inside-requires-clause-before
turns_inside-requires-clause-before c =
    let a : c.args.place - 2 < length c.args.points.now = omega arith in
    let b : c.args.place - 1 < length c.args.points.now = omega arith in
    rise-pairs c.args.points.now (c.args.place - 2) (c.args.place - 1) c.index-points-place.result c.index-points-place-2.result c.requires.rise
    (slice_get_read c.args.points.now _ (c.args.place - 2) c.index-points-place.result refl a c.index-points-place.is)
    (slice_get_read c.args.points.now _ (c.args.place - 1) c.index-points-place-2.result refl b c.index-points-place-2.is) (omega arith)

pub turns_inside-requires-clause-after : goal.turns_inside-requires-clause-after
turns_inside-requires-clause-after c =
    let b : c.args.place - 1 < length c.args.points.now = omega arith in
    let d : c.args.place < length c.args.points.now = omega (arith, c.if-place-points.false) in
    rise-pairs c.args.points.now (c.args.place - 1) c.args.place c.index-points-place-2.result c.index-points-place-else-place-points.result c.requires.rise
    (slice_get_read c.args.points.now _ (c.args.place - 1) c.index-points-place-2.result refl b c.index-points-place-2.is)
    (slice_get_read c.args.points.now _ c.args.place c.index-points-place-else-place-points.result refl d c.index-points-place-else-place-points.is) (omega arith)

pub returns-then-place-points : goal.returns-then-place-points
returns-then-place-points c =
    let a : c.args.place - 2 < length c.args.points.now = omega arith in
    let b : c.args.place - 1 < length c.args.points.now = omega arith in
    c.turns_at_end.ensures
    ∙ sym (ap (at_part c.args.part) (turn-by passes_Q c.args.points.now c.args.place c.index-points-place.result c.index-points-place-2.result None
    (slice_get_read c.args.points.now _ (c.args.place - 2) c.index-points-place.result refl a c.index-points-place.is)
    (slice_get_read c.args.points.now _ (c.args.place - 1) c.index-points-place-2.result refl b c.index-points-place-2.is)
    (slice_get_past c.args.points.now c.args.place (omega arith))))

pub returns-else-place-points : goal.returns-else-place-points
returns-else-place-points c =
    let a : c.args.place - 2 < length c.args.points.now = omega arith in
    let b : c.args.place - 1 < length c.args.points.now = omega arith in
    let d : c.args.place < length c.args.points.now = omega (arith, c.if-place-points.false) in
    c.turns_inside.ensures
    ∙ sym (ap (at_part c.args.part) (turn-by passes_Q c.args.points.now c.args.place c.index-points-place.result c.index-points-place-2.result
    (Some c.index-points-place-else-place-points.result)
    (slice_get_read c.args.points.now _ (c.args.place - 2) c.index-points-place.result refl a c.index-points-place.is)
    (slice_get_read c.args.points.now _ (c.args.place - 1) c.index-points-place-2.result refl b c.index-points-place-2.is)
    (slice_get_read c.args.points.now _ c.args.place c.index-points-place-else-place-points.result refl d c.index-points-place-else-place-points.is)))
