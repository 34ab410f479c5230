use Rattle.std.proofs.Common.{List, sym, ◌∙◌, arith}
use Rattle.nf_curve.proofs.Common.{err_from_is_err_and, ℚ, lt_ℚ, passes_Q, Checked, each, checked_value, corner_at, points_along, composed_piece}
use Rattle.nf_curve.proofs.Composing.{piece_begun}
use Rattle.nf_curve.proofs.Exits.{after_err}
use Rattle.nf_curve.proofs.Placing.{place_within}
use Rattle.nf_curve.proofs.composed.add_piece.Goals as goal

pub returns-in_err-value-clause-points : goal.returns-in_err-value-clause-points
returns-in_err-value-clause-points c =
    let p = err_from_is_err_and c.from_residual.result c.from_residual.ensures.1 in
    rw (p.1, p.2) (after_err {B = List (ℚ × ℚ)} c.args.part (composed_piece passes_Q c.args.outer.now c.args.p.now c.args.q.now) _ c.in_err-value.field-0.0
    (after_err {B = List (ℚ × ℚ)} c.args.part (checked_value passes_Q c.args.outer.now c.args.p.now.1) _ c.in_err-value.field-0.0 (sym c.in_err-value.ensures.value)))

pub returns-in_err-push-clause-points : goal.returns-in_err-push-clause-points
returns-in_err-push-clause-points c =
    let p = err_from_is_err_and c.from_residual-in_err-push.result c.from_residual-in_err-push.ensures.1 in rw (p.1, p.2) tt

pub returns-in_err-add_corners-clause-points : goal.returns-in_err-add_corners-clause-points
returns-in_err-add_corners-clause-points c =
    let p = err_from_is_err_and c.from_residual-in_err-add_corners.result c.from_residual-in_err-add_corners.ensures.1 in
    let corners : Checked (List (ℚ × ℚ)) = each (corner_at passes_Q c.args.p.now c.args.q.now)
    (points_along (lt_ℚ c.args.p.now.1 c.args.q.now.1) c.args.p.now.1 c.args.q.now.1 c.args.outer.now) in
    let begun = piece_begun c.args.part c.args.composed.now.items c.push.new.self.items c.args.p.now.0 c.in_ok-value.value
    (checked_value passes_Q c.args.outer.now c.args.p.now.1) corners (sym c.in_ok-value.ensures.value) c.in_ok-push.ensures.items in
    rw (p.1, p.2, begun) c.in_err-add_corners.ensures

pub returns-clause-points : goal.returns-clause-points
returns-clause-points c =
    let corners : Checked (List (ℚ × ℚ)) = each (corner_at passes_Q c.args.p.now c.args.q.now)
    (points_along (lt_ℚ c.args.p.now.1 c.args.q.now.1) c.args.p.now.1 c.args.q.now.1 c.args.outer.now) in
    piece_begun c.args.part c.args.composed.now.items c.push.new.self.items c.args.p.now.0 c.in_ok-value.value
    (checked_value passes_Q c.args.outer.now c.args.p.now.1) corners (sym c.in_ok-value.ensures.value) c.in_ok-push.ensures.items
    ∙ c.in_ok-add_corners.ensures

pub add_corners-requires-clause-outer : goal.add_corners-requires-clause-outer
add_corners-requires-clause-outer c = c.requires.outer

pub add_corners-requires-clause-later : goal.add_corners-requires-clause-later
add_corners-requires-clause-later c = c.requires.later

pub add_corners-requires-clause-first : goal.add_corners-requires-clause-first
add_corners-requires-clause-first c = c.requires.place

pub add_corners-requires-clause-last : goal.add_corners-requires-clause-last
add_corners-requires-clause-last c = c.place_near-next.ensures

pub place_near-next-requires-clause-from : goal.place_near-next-requires-clause-from
place_near-next-requires-clause-from c = let h = place_within c.args.p.now.1 c.args.outer.now in omega (arith, c.requires.place)
