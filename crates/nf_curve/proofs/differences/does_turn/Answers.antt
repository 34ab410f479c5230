use Rattle.std.proofs.Common.{◌<◌, ◌-◌, length, get_or, sym, ap, ◌∙◌, arith}
use Rattle.nf_curve.proofs.Common.{slice_get-get_or, passes_Q, at_part}
use Rattle.nf_curve.proofs.Turned.{turn-early, turn-apart, turn-there}
use Rattle.nf_curve.proofs.differences.does_turn.Goals as goal
use Rattle.nf_curve.proofs.differences.does_turn.Goals.{then-place-lt2-via-then-place-lt2, then-place-lt2-via-else-place-lt2+then-not-is_same}

pub returns-then-place-lt2 : goal.returns-then-place-lt2
returns-then-place-lt2 c = elim c.then-place-lt2.branch [
  | then-place-lt2-via-then-place-lt2 w ↦ sym (ap (at_part c.args.part) (turn-early passes_Q c.args.time c.args.points.now c.args.place c.requires.curve
      c.requires.time c.requires.place w.if-place-lt2.true))
  | then-place-lt2-via-else-place-lt2+then-not-is_same w ↦
      let a : c.args.place - 2 < length c.args.points.now = omega (arith, w.if-place-lt2.false) in
      let b : c.args.place - 1 < length c.args.points.now = omega (arith, w.if-place-lt2.false) in
      sym (ap (at_part c.args.part) (turn-apart passes_Q c.args.time c.args.points.now c.args.place
      (get_or c.args.points.now (c.args.place - 2) w.index-points-place.result)
      (get_or c.args.points.now (c.args.place - 1) w.index-points-place.result)
      c.requires.curve c.requires.time c.requires.place w.if-place-lt2.false (slice_get-get_or c.args.points.now (c.args.place - 2) w.index-points-place.result a)
      (slice_get-get_or c.args.points.now (c.args.place - 1) w.index-points-place.result b) (sym w.is_same.ensures ∙ w.if-not-is_same.true)))
]

pub returns : goal.returns
returns c =
    let a : c.args.place - 2 < length c.args.points.now = omega (arith, c.if-place-lt2.false) in
    let b : c.args.place - 1 < length c.args.points.now = omega (arith, c.if-place-lt2.false) in
    c.turns_before.ensures
    ∙ sym (ap (at_part c.args.part) (turn-there passes_Q c.args.time c.args.points.now c.args.place
    (get_or c.args.points.now (c.args.place - 2) c.index-points-place.result) (get_or c.args.points.now (c.args.place - 1) c.index-points-place.result)
    c.requires.curve c.requires.time c.requires.place c.if-place-lt2.false (slice_get-get_or c.args.points.now (c.args.place - 2) c.index-points-place.result a)
    (slice_get-get_or c.args.points.now (c.args.place - 1) c.index-points-place.result b) (sym c.is_same.ensures ∙ c.if-not-is_same.false)))
