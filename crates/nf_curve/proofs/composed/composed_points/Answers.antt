use Rattle.std.proofs.Common.{◌≡◌, ℕ, ◌<◌, ◌+◌, ◌-◌, length, drop, Some, refl, sym, ap, ◌∙◌, arith, slice_get, Ok}
use Rattle.nf_curve.proofs.Common.{slice_get_read, same_Some, err_from_is_err_and, ℚ, passes_Q, at_part, composed_piece, composed_all, count_until, behind}
use Rattle.nf_curve.proofs.Points.{points_there}
use Rattle.nf_curve.proofs.Placing.{rise-pairs, curve-rises, last_there}
use Rattle.nf_curve.proofs.Composing.{pieces_go, pieces_stop, last_stops, last_goes}
use Rattle.nf_curve.proofs.Exits.{stops_on}
use Rattle.nf_curve.proofs.composed.composed_points.Goals as goal

pub bounds-inner-0-in_ok-composed : goal.bounds-inner-0-in_ok-composed
bounds-inner-0-in_ok-composed c = points_there c.args.inner.now c.requires.inner

pub add_piece-requires-clause-later : goal.add_piece-requires-clause-later
add_piece-requires-clause-later c =
    let a : c.loop-i.i - 1 < length c.args.inner.now = omega arith in
    rise-pairs c.args.inner.now (c.loop-i.i - 1) c.loop-i.i c.index-inner-i.result c.index-inner-i-in-loop-i.result (curve-rises c.args.inner.now c.requires.inner)
    (slice_get_read c.args.inner.now _ (c.loop-i.i - 1) c.index-inner-i.result refl a c.index-inner-i.is)
    (slice_get_read c.args.inner.now _ c.loop-i.i c.index-inner-i-in-loop-i.result refl c.loop-i-test.true c.index-inner-i-in-loop-i.is) (omega arith)

pub add_piece-requires-clause-value : goal.add_piece-requires-clause-value
add_piece-requires-clause-value c =
    let a : c.loop-i.i - 1 < length c.args.inner.now = omega arith in
    c.requires.values (c.loop-i.i - 1) c.index-inner-i.result (slice_get_read c.args.inner.now _ (c.loop-i.i - 1) c.index-inner-i.result refl a c.index-inner-i.is)

pub add_piece-requires-clause-place : goal.add_piece-requires-clause-place
add_piece-requires-clause-place c =
    let a : c.loop-i.i - 1 < length c.args.inner.now = omega arith in
    c.loop-i.invariant.place c.index-inner-i.result (slice_get_read c.args.inner.now _ (c.loop-i.i - 1) c.index-inner-i.result refl a c.index-inner-i.is)

pub returns-in_err-composed : goal.returns-in_err-composed
returns-in_err-composed c = let p = err_from_is_err_and c.from_residual.result c.from_residual.ensures.1 in rw (p.1, p.2) tt

pub returns-in_err-add_piece : goal.returns-in_err-add_piece
returns-in_err-add_piece c =
    let p = err_from_is_err_and c.from_residual-in_err-add_piece.result c.from_residual-in_err-add_piece.ensures.1 in
    let a : c.loop-i.i - 1 < length c.args.inner.now = omega arith in
    let g = slice_get_read c.args.inner.now _ (c.loop-i.i - 1) c.index-inner-i.result refl a c.index-inner-i.is in
    let k = slice_get_read c.args.inner.now _ c.loop-i.i c.index-inner-i-in-loop-i.result refl c.loop-i-test.true c.index-inner-i-in-loop-i.is in
    rw (p.1, p.2) (stops_on c.in_err-add_piece.field-0.0 (at_part c.args.part
    (behind c.loop-i.composed.items (composed_piece passes_Q c.args.outer.now c.index-inner-i.result c.index-inner-i-in-loop-i.result)))
    (at_part c.args.part (composed_all passes_Q c.args.outer.now c.args.inner.now))
    (pieces_stop passes_Q c.args.part c.args.outer.now c.args.inner.now c.loop-i.composed.items _
    (c.loop-i.i - 1) c.loop-i.i c.index-inner-i.result c.index-inner-i-in-loop-i.result (omega arith) g k
    c.loop-i.invariant.so_far) c.in_err-add_piece.ensures.points)

pub loop-i-preserved : goal.loop-i-preserved
loop-i-preserved c =
    let a : c.loop-i.i - 1 < length c.args.inner.now = omega arith in
    let n : c.loop-i.i + 1 - 1 ≡ c.loop-i.i = omega arith in
    let g = slice_get_read c.args.inner.now _ (c.loop-i.i - 1) c.index-inner-i.result refl a c.index-inner-i.is in
    let k = slice_get_read c.args.inner.now _ c.loop-i.i c.index-inner-i-in-loop-i.result refl c.loop-i-test.true c.index-inner-i-in-loop-i.is in
    record {
      kept = c.in_ok-add_piece.ensures.kept;
      place = λ p e. c.in_ok-add_piece.ensures.place ∙ ap (λ (x : ℚ × ℚ). count_until x.1 c.args.outer.now)
          (let h : slice_get c.args.inner.now c.loop-i.i ≡ Some p = ap (slice_get c.args.inner.now) (sym n) ∙ e in same_Some _ _ (sym k ∙ h));
      so_far = ap (λ (m : ℕ). behind c.add_piece.new.composed.items (composed_all passes_Q c.args.outer.now (drop m c.args.inner.now))) n
          ∙ pieces_go passes_Q c.args.part c.args.outer.now c.args.inner.now c.loop-i.composed.items _
          (c.loop-i.i - 1) c.loop-i.i c.index-inner-i.result c.index-inner-i-in-loop-i.result (omega arith) g k
          c.loop-i.invariant.so_far c.add_piece.new.composed.items c.in_ok-add_piece.ensures.points;
    }

pub value_with-requires-clause-time : goal.value_with-requires-clause-time
value_with-requires-clause-time c =
    let some = points_there c.args.inner.now c.requires.inner in
    let a : length c.args.inner.now - 1 < length c.args.inner.now = last_there _ some in
    c.requires.values (length c.args.inner.now - 1) c.index-inner-inner.result
    (slice_get_read c.args.inner.now _ (length c.args.inner.now - 1) c.index-inner-inner.result refl a c.index-inner-inner.is)

pub value_with-requires-clause-place : goal.value_with-requires-clause-place
value_with-requires-clause-place c =
    let some = points_there c.args.inner.now c.requires.inner in
    let a : length c.args.inner.now - 1 < length c.args.inner.now = last_there _ some in
    let i : c.loop-i.i - 1 ≡ length c.args.inner.now - 1 = omega arith in
    c.loop-i.invariant.place c.index-inner-inner.result (ap (slice_get c.args.inner.now) i
    ∙ slice_get_read c.args.inner.now _ (length c.args.inner.now - 1) c.index-inner-inner.result refl a c.index-inner-inner.is)

pub returns-in_err-value : goal.returns-in_err-value
returns-in_err-value c =
    let p = err_from_is_err_and c.from_residual-in_err-value.result c.from_residual-in_err-value.ensures.1 in
    let some = points_there c.args.inner.now c.requires.inner in
    let a : length c.args.inner.now - 1 < length c.args.inner.now = last_there _ some in
    let i : c.loop-i.i - 1 ≡ length c.args.inner.now - 1 = omega arith in
    let g = slice_get_read c.args.inner.now _ (length c.args.inner.now - 1) c.index-inner-inner.result refl a c.index-inner-inner.is in
    rw (p.1, p.2) (last_stops passes_Q c.args.part c.args.outer.now c.args.inner.now c.loop-i.composed.items _ (length c.args.inner.now - 1) c.index-inner-inner.result g (omega arith)
    (ap (λ (m : ℕ). behind c.loop-i.composed.items (composed_all passes_Q c.args.outer.now (drop m c.args.inner.now))) (sym i) ∙ c.loop-i.invariant.so_far)
    c.in_err-value.field-0.0 (sym c.in_err-value.ensures.value))

pub returns-in_err-push : goal.returns-in_err-push
returns-in_err-push c =
    let p = err_from_is_err_and c.from_residual-in_err-push.result c.from_residual-in_err-push.ensures.1 in rw (p.1, p.2) tt

pub returns : goal.returns
returns c =
    let some = points_there c.args.inner.now c.requires.inner in
    let a : length c.args.inner.now - 1 < length c.args.inner.now = last_there _ some in
    let i : c.loop-i.i - 1 ≡ length c.args.inner.now - 1 = omega arith in
    let g = slice_get_read c.args.inner.now _ (length c.args.inner.now - 1) c.index-inner-inner.result refl a c.index-inner-inner.is in
    last_goes passes_Q c.args.part c.args.outer.now c.args.inner.now c.loop-i.composed.items _ (length c.args.inner.now - 1) c.index-inner-inner.result g (omega arith)
    (ap (λ (m : ℕ). behind c.loop-i.composed.items (composed_all passes_Q c.args.outer.now (drop m c.args.inner.now))) (sym i) ∙ c.loop-i.invariant.so_far)
    c.in_ok-value.value (sym c.in_ok-value.ensures.value)
    ∙ ap Ok (sym c.in_ok-push.ensures.items)

pub add_piece-requires-clause-outer : goal.add_piece-requires-clause-outer
add_piece-requires-clause-outer c = c.requires.outer

pub value_with-requires-clause-curve : goal.value_with-requires-clause-curve
value_with-requires-clause-curve c = c.requires.outer

pub overflow_sub-end : goal.overflow_sub-end
overflow_sub-end c = points_there c.args.inner.now c.requires.inner

pub bounds-inner-inner : goal.bounds-inner-inner
bounds-inner-inner c = last_there _ (points_there c.args.inner.now c.requires.inner)

pub add_piece-requires-clause-kept : goal.add_piece-requires-clause-kept
add_piece-requires-clause-kept c = c.loop-i.invariant.kept

pub value_with-requires-clause-kept : goal.value_with-requires-clause-kept
value_with-requires-clause-kept c = c.loop-i.invariant.kept
