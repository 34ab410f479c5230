use Rattle.std.proofs.Common.{ℕ, suc, List, ◌∷◌, [], drop, refl, sym, ap, subst, ◌∙◌, add-one, append-nil, Ok}
use Rattle.nf_curve.proofs.Common.{filter, slice_get_read, at_drop_all, err_from_is_err_and, ℚ, ◌<ℚ◌, lt_ℚ, <ℚ_irrefl, drop_entry, passes_Q, Checked}
use Rattle.nf_curve.proofs.Common.{at_part, each, corner_at, behind}
use Rattle.nf_curve.proofs.Between.{corner_goes, corner_stops}
use Rattle.nf_curve.proofs.Exits.{stops_on}
use Rattle.nf_curve.proofs.composed.add_corners_up.Goals as goal

pub loop-corner-init : goal.loop-corner-init
loop-corner-init c = refl

pub add_corner_below-requires-clause-later : goal.add_corner_below-requires-clause-later
add_corner_below-requires-clause-later c = c.requires.later

pub add_corner_below-requires-clause-apart : goal.add_corner_below-requires-clause-apart
add_corner_below-requires-clause-apart c = λ e. <ℚ_irrefl c.args.q.now.1 (subst (λ (y : ℚ). y <ℚ c.args.q.now.1) e c.requires.up)

pub returns-in_err-add_corner_below : goal.returns-in_err-add_corner_below
returns-in_err-add_corner_below c =
    let p = err_from_is_err_and c.from_residual.result c.from_residual.ensures.1 in
    let corners : List (ℚ × ℚ) → Checked (List (ℚ × ℚ)) = λ l. each (corner_at passes_Q c.args.p.now c.args.q.now) (filter (λ (x : ℚ × ℚ). lt_ℚ x.0 c.args.q.now.1) l) in
    let g = slice_get_read c.args.between.now _ c.loop-corner.corner-index c.corner-item.result refl c.loop-corner-test.true c.corner-item.is in
    let d = drop_entry c.args.between.now c.loop-corner.corner-index c.corner-item.result g in
    rw (p.1, p.2) (stops_on c.in_err-add_corner_below.field-0.0 (at_part c.args.part
    (behind c.loop-corner.composed.items (corners (c.corner-item.result ∷ []))))
    (at_part c.args.part (behind c.args.composed.now.items (corners c.args.between.now)))
    (corner_stops (corner_at passes_Q c.args.p.now c.args.q.now) c.args.part c.loop-corner.composed.items _
    (λ (x : ℚ × ℚ). lt_ℚ x.0 c.args.q.now.1) c.corner-item.result (drop (suc c.loop-corner.corner-index) c.args.between.now)
    (ap (λ (l : List (ℚ × ℚ)). behind c.loop-corner.composed.items (corners l)) (sym d) ∙ c.loop-corner.invariant)) c.in_err-add_corner_below.ensures)

pub loop-corner-preserved : goal.loop-corner-preserved
loop-corner-preserved c =
    let corners : List (ℚ × ℚ) → Checked (List (ℚ × ℚ)) = λ l. each (corner_at passes_Q c.args.p.now c.args.q.now) (filter (λ (x : ℚ × ℚ). lt_ℚ x.0 c.args.q.now.1) l) in
    let g = slice_get_read c.args.between.now _ c.loop-corner.corner-index c.corner-item.result refl c.loop-corner-test.true c.corner-item.is in
    let d = drop_entry c.args.between.now c.loop-corner.corner-index c.corner-item.result g in
    ap (λ (k : ℕ). behind c.add_corner_below.new.composed.items (corners (drop k c.args.between.now))) (add-one c.loop-corner.corner-index)
    ∙ corner_goes (corner_at passes_Q c.args.p.now c.args.q.now) c.args.part c.loop-corner.composed.items _
    (λ (x : ℚ × ℚ). lt_ℚ x.0 c.args.q.now.1) c.corner-item.result (drop (suc c.loop-corner.corner-index) c.args.between.now)
    (ap (λ (l : List (ℚ × ℚ)). behind c.loop-corner.composed.items (corners l)) (sym d) ∙ c.loop-corner.invariant) c.add_corner_below.new.composed.items c.in_ok-add_corner_below.ensures

pub returns : goal.returns
returns c =
    let corners : List (ℚ × ℚ) → Checked (List (ℚ × ℚ)) = λ l. each (corner_at passes_Q c.args.p.now c.args.q.now) (filter (λ (x : ℚ × ℚ). lt_ℚ x.0 c.args.q.now.1) l) in
    ap (at_part c.args.part) (sym c.loop-corner.invariant
    ∙ at_drop_all (λ (l : List (ℚ × ℚ)). behind c.loop-corner.composed.items (corners l)) c.args.between.now c.loop-corner.corner-index c.loop-corner-test.false
    ∙ ap Ok (append-nil c.loop-corner.composed.items))
