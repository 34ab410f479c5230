use Rattle.std.proofs.Common.{◌≡◌, ℕ, ◌<◌, ◌-◌, List, ◌∷◌, [], length, take, reverse, refl, sym, ap, subst, ◌∙◌, arith, append-nil, Ok}
use Rattle.nf_curve.proofs.Common.{filter, slice_get_read, err_from_is_err_and, ℚ, ◌<ℚ◌, lt_ℚ, <ℚ_irrefl, passes_Q, Checked, at_part, each, corner_at}
use Rattle.nf_curve.proofs.Common.{behind}
use Rattle.nf_curve.proofs.Between.{corner_goes, corner_stops, take-last}
use Rattle.nf_curve.proofs.Exits.{stops_on}
use Rattle.nf_curve.proofs.composed.add_corners_down.Goals as goal

pub add_corner_below-requires-clause-later : goal.add_corner_below-requires-clause-later
add_corner_below-requires-clause-later c = c.requires.later

pub add_corner_below-requires-clause-apart : goal.add_corner_below-requires-clause-apart
add_corner_below-requires-clause-apart c = λ e. <ℚ_irrefl c.args.q.now.1 (subst (λ (y : ℚ). c.args.q.now.1 <ℚ y) e c.requires.down)

pub returns-in_err-add_corner_below : goal.returns-in_err-add_corner_below
returns-in_err-add_corner_below c =
    let p = err_from_is_err_and c.from_residual.result c.from_residual.ensures.1 in
    let corners : List (ℚ × ℚ) → Checked (List (ℚ × ℚ)) = λ l. each (corner_at passes_Q c.args.p.now c.args.q.now) (filter (λ (x : ℚ × ℚ). lt_ℚ x.0 c.args.p.now.1) l) in
    let b : c.loop-left.left - 1 < length c.args.between.now = omega (arith, c.loop-left.invariant.within) in
    let g = slice_get_read c.args.between.now _ (c.loop-left.left - 1) c.index-between-left.result refl b c.index-between-left.is in
    let d = take-last c.args.between.now (c.loop-left.left - 1) c.loop-left.left c.index-between-left.result g (omega arith) in
    rw (p.1, p.2) (stops_on c.in_err-add_corner_below.field-0.0 (at_part c.args.part
    (behind c.loop-left.composed.items (corners (c.index-between-left.result ∷ []))))
    (at_part c.args.part (behind c.args.composed.now.items (corners (reverse c.args.between.now))))
    (corner_stops (corner_at passes_Q c.args.p.now c.args.q.now) c.args.part c.loop-left.composed.items _
    (λ (x : ℚ × ℚ). lt_ℚ x.0 c.args.p.now.1) c.index-between-left.result (reverse (take (c.loop-left.left - 1) c.args.between.now))
    (ap (λ (l : List (ℚ × ℚ)). behind c.loop-left.composed.items (corners l)) (sym d) ∙ c.loop-left.invariant.so_far)) c.in_err-add_corner_below.ensures)

pub loop-left-preserved : goal.loop-left-preserved
loop-left-preserved c =
    let corners : List (ℚ × ℚ) → Checked (List (ℚ × ℚ)) = λ l. each (corner_at passes_Q c.args.p.now c.args.q.now) (filter (λ (x : ℚ × ℚ). lt_ℚ x.0 c.args.p.now.1) l) in
    let b : c.loop-left.left - 1 < length c.args.between.now = omega (arith, c.loop-left.invariant.within) in
    let g = slice_get_read c.args.between.now _ (c.loop-left.left - 1) c.index-between-left.result refl b c.index-between-left.is in
    let d = take-last c.args.between.now (c.loop-left.left - 1) c.loop-left.left c.index-between-left.result g (omega arith) in
    record {
      within = omega arith;
      so_far = corner_goes (corner_at passes_Q c.args.p.now c.args.q.now) c.args.part c.loop-left.composed.items _
          (λ (x : ℚ × ℚ). lt_ℚ x.0 c.args.p.now.1) c.index-between-left.result (reverse (take (c.loop-left.left - 1) c.args.between.now))
          (ap (λ (l : List (ℚ × ℚ)). behind c.loop-left.composed.items (corners l)) (sym d) ∙ c.loop-left.invariant.so_far)
          c.add_corner_below.new.composed.items c.in_ok-add_corner_below.ensures;
    }

pub returns : goal.returns
returns c =
    let none : c.loop-left.left ≡ 0 = omega arith in
    ap (at_part c.args.part) (sym c.loop-left.invariant.so_far
    ∙ ap (λ (k : ℕ). behind c.loop-left.composed.items (each (corner_at passes_Q c.args.p.now c.args.q.now)
    (filter (λ (x : ℚ × ℚ). lt_ℚ x.0 c.args.p.now.1) (reverse (take k c.args.between.now))))) none
    ∙ ap Ok (append-nil c.loop-left.composed.items))
