use Rattle.std.proofs.Common.{◌<◌, ◌-◌, length, get_or, refl, sym, ◌∙◌, rules, arith, Ok, Err}
use Rattle.nf_curve.proofs.Common.{err_from_is_err_and, slice_get_read, slice_get_past, slice_get-get_or, passes_Q}
use Rattle.nf_frac.proofs.Comparisons.{same_by_order}
use Rattle.nf_curve.proofs.Placing.{place_within, place_some, around-place, curve-rises, value-last, value-same, value-line}
use Rattle.nf_curve.proofs.Sloping.{line-stops, line-goes}
use Rattle.nf_curve.proofs.values.value_with.Goals as goal
use Rattle.nf_curve.proofs.values.value_with.Goals.{then-place-points-via-then-place-points, then-place-points-via-else-place-points+then-eq}

pub overflow_sub-last : goal.overflow_sub-last
overflow_sub-last c = let h = place_some c.args.time c.args.points.now c.requires.curve c.requires.time in omega arith

pub offset_bounds-points-place : goal.offset_bounds-points-place
offset_bounds-points-place c =
    let h = place_some c.args.time c.args.points.now c.requires.curve c.requires.time in
    let k = place_within c.args.time c.args.points.now in
    let b : c.args.place - 1 < length c.args.points.now = omega arith in search rules

pub bounds-points-place : goal.bounds-points-place
bounds-points-place c =
    let h = place_some c.args.time c.args.points.now c.requires.curve c.requires.time in
    let k = place_within c.args.time c.args.points.now in omega arith

pub slope_at-requires-clause-rise : goal.slope_at-requires-clause-rise
slope_at-requires-clause-rise c = curve-rises c.args.points.now c.requires.curve

pub slope_at-requires-clause-some : goal.slope_at-requires-clause-some
slope_at-requires-clause-some c = let h = place_some c.args.time c.args.points.now c.requires.curve c.requires.time in omega arith

pub slope_at-requires-clause-within : goal.slope_at-requires-clause-within
slope_at-requires-clause-within c = let k = place_within c.args.time c.args.points.now in omega arith

pub returns-then-place-points-clause-value : goal.returns-then-place-points-clause-value
returns-then-place-points-clause-value c =
    let h = place_some c.args.time c.args.points.now c.requires.curve c.requires.time in
    let k = place_within c.args.time c.args.points.now in
    let b : c.args.place - 1 < length c.args.points.now = omega arith in
    let g = slice_get_read c.args.points.now _ (c.args.place - 1) c.index-points-place.result refl b c.index-points-place.is in
    elim c.then-place-points.branch [
      | then-place-points-via-then-place-points w ↦ value-last passes_Q c.args.part c.args.time c.args.points.now c.args.place c.index-points-place.result
          c.requires.curve c.requires.time c.requires.place g
          (slice_get_past c.args.points.now c.args.place (omega arith))
      | then-place-points-via-else-place-points+then-eq w ↦
          let d : c.args.place < length c.args.points.now = omega (arith, w.if-place-points.false) in
          value-same passes_Q c.args.part c.args.time c.args.points.now c.args.place c.index-points-place.result c.requires.curve c.requires.time c.requires.place g
          (get_or c.args.points.now c.args.place c.index-points-place.result) (slice_get-get_or c.args.points.now c.args.place c.index-points-place.result d)
          (sym (same_by_order c.args.time c.index-points-place.result.0) ∙ sym w.eq.ensures ∙ w.if-eq.true)
    ]

pub returns-in_err-slope-clause-value : goal.returns-in_err-slope-clause-value
returns-in_err-slope-clause-value c =
    let w = err_from_is_err_and c.from_residual.result c.from_residual.ensures.1 in
    let h = place_some c.args.time c.args.points.now c.requires.curve c.requires.time in
    let k = place_within c.args.time c.args.points.now in
    let b : c.args.place - 1 < length c.args.points.now = omega arith in
    let d : c.args.place < length c.args.points.now = omega arith in
    let p = c.index-points-place.result in
    let q = get_or c.args.points.now c.args.place p in
    let g = slice_get_read c.args.points.now _ (c.args.place - 1) p refl b c.index-points-place.is in
    let i = slice_get-get_or c.args.points.now c.args.place p d in
    rw (w.1, w.2) (value-line passes_Q c.args.part c.args.time c.args.points.now c.args.place p c.requires.curve c.requires.time c.requires.place g q (Err c.in_err-slope.field-0.0) i
    (sym (same_by_order c.args.time p.0) ∙ sym c.eq.ensures ∙ c.if-eq.false)
    (line-stops c.args.part p q c.args.time (Err c.in_err-slope.field-0.0) (c.in_err-slope.ensures.slope p q g i) c.in_err-slope.field-0.0 refl))

pub returns-clause-value : goal.returns-clause-value
returns-clause-value c =
    let h = place_some c.args.time c.args.points.now c.requires.curve c.requires.time in
    let k = place_within c.args.time c.args.points.now in
    let b : c.args.place - 1 < length c.args.points.now = omega arith in
    let d : c.args.place < length c.args.points.now = omega arith in
    let p = c.index-points-place.result in
    let q = get_or c.args.points.now c.args.place p in
    let g = slice_get_read c.args.points.now _ (c.args.place - 1) p refl b c.index-points-place.is in
    let i = slice_get-get_or c.args.points.now c.args.place p d in
    value-line passes_Q c.args.part c.args.time c.args.points.now c.args.place p c.requires.curve c.requires.time c.requires.place g q c.along.result i
    (sym (same_by_order c.args.time p.0) ∙ sym c.eq.ensures ∙ c.if-eq.false)
    (line-goes c.args.part p q c.args.time (Ok c.in_ok-slope.slope) (c.in_ok-slope.ensures.slope p q g i) c.in_ok-slope.slope c.along.result refl c.along.ensures)
