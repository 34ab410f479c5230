use Rattle.std.proofs.Common.{◌≤◌, length, sym, ap, ◌∙◌, rules, arith, append-nil, Ok}
use Rattle.nf_curve.proofs.Common.{≤ℚ_of_lt, less_of_test}
use Rattle.nf_curve.proofs.Placing.{place-rises, place_within, curve-rises}
use Rattle.nf_curve.proofs.Between.{along-up, along-down, along-level}
use Rattle.nf_curve.proofs.composed.add_corners.Goals as goal

pub add_corners_up-requires-clause-up : goal.add_corners_up-requires-clause-up
add_corners_up-requires-clause-up c = less_of_test c.args.p.now.1 c.args.q.now.1 (sym c.is_below.ensures ∙ c.if-is_below.true)

pub add_corners_down-requires-clause-down : goal.add_corners_down-requires-clause-down
add_corners_down-requires-clause-down c = less_of_test c.args.q.now.1 c.args.p.now.1 (sym c.is_below-else-is_below.ensures ∙ c.if-is_below-2.true)

pub slice_bounds-add_corners_up-count : goal.slice_bounds-add_corners_up-count
slice_bounds-add_corners_up-count c =
    let h = place-rises c.args.p.now.1 c.args.q.now.1 c.args.outer.now (≤ℚ_of_lt _ _
    (less_of_test c.args.p.now.1 c.args.q.now.1 (sym c.is_below.ensures ∙ c.if-is_below.true))) in omega arith

pub offset_bounds-outer-first : goal.offset_bounds-outer-first
offset_bounds-outer-first c =
    let h = place_within c.args.p.now.1 c.args.outer.now in
    let w : c.args.places.0 ≤ length c.args.outer.now = omega arith in search rules

pub slice_bounds-add_corners_up-start : goal.slice_bounds-add_corners_up-start
slice_bounds-add_corners_up-start c =
    let h = place-rises c.args.p.now.1 c.args.q.now.1 c.args.outer.now (≤ℚ_of_lt _ _ (less_of_test c.args.p.now.1 c.args.q.now.1 (sym c.is_below.ensures ∙ c.if-is_below.true))) in
    let o : c.args.places.0 ≤ c.args.places.1 = omega arith in search rules

pub slice_bounds-add_corners_up-end : goal.slice_bounds-add_corners_up-end
slice_bounds-add_corners_up-end c =
    let h = place_within c.args.q.now.1 c.args.outer.now in
    let w : c.args.places.1 ≤ length c.args.outer.now = omega arith in search rules

pub slice_bounds-add_corners_down-count : goal.slice_bounds-add_corners_down-count
slice_bounds-add_corners_down-count c =
    let h = place-rises c.args.q.now.1 c.args.p.now.1 c.args.outer.now (≤ℚ_of_lt _ _
    (less_of_test c.args.q.now.1 c.args.p.now.1 (sym c.is_below-else-is_below.ensures ∙ c.if-is_below-2.true))) in omega arith

pub offset_bounds-outer-last : goal.offset_bounds-outer-last
offset_bounds-outer-last c =
    let h = place_within c.args.q.now.1 c.args.outer.now in
    let w : c.args.places.1 ≤ length c.args.outer.now = omega arith in search rules

pub slice_bounds-add_corners_down-start : goal.slice_bounds-add_corners_down-start
slice_bounds-add_corners_down-start c =
    let h = place-rises c.args.q.now.1 c.args.p.now.1 c.args.outer.now (≤ℚ_of_lt _ _
    (less_of_test c.args.q.now.1 c.args.p.now.1 (sym c.is_below-else-is_below.ensures ∙ c.if-is_below-2.true))) in
    let o : c.args.places.1 ≤ c.args.places.0 = omega arith in search rules

pub slice_bounds-add_corners_down-end : goal.slice_bounds-add_corners_down-end
slice_bounds-add_corners_down-end c =
    let h = place_within c.args.p.now.1 c.args.outer.now in
    let w : c.args.places.0 ≤ length c.args.outer.now = omega arith in search rules

pub returns-then-is_below : goal.returns-then-is_below
returns-then-is_below c =
    let u = less_of_test c.args.p.now.1 c.args.q.now.1 (sym c.is_below.ensures ∙ c.if-is_below.true) in
    let e = along-up c.args.p.now.1 c.args.q.now.1 c.args.outer.now c.args.places.0 c.args.places.1 (curve-rises c.args.outer.now c.requires.outer) u c.requires.first c.requires.last in
    rw e c.add_corners_up.ensures

pub returns-then-is_below-2 : goal.returns-then-is_below-2
returns-then-is_below-2 c =
    let u = less_of_test c.args.q.now.1 c.args.p.now.1 (sym c.is_below-else-is_below.ensures ∙ c.if-is_below-2.true) in
    let e = along-down c.args.p.now.1 c.args.q.now.1 c.args.outer.now c.args.places.0 c.args.places.1
    (curve-rises c.args.outer.now c.requires.outer) u c.requires.first c.requires.last in
    rw e c.add_corners_down.ensures

pub returns-else-is_below-2 : goal.returns-else-is_below-2
returns-else-is_below-2 c =
    let e = along-level c.args.p.now.1 c.args.q.now.1 c.args.outer.now (sym c.is_below.ensures ∙ c.if-is_below.false) (sym c.is_below-else-is_below.ensures ∙ c.if-is_below-2.false) in
    rw e (ap Ok (append-nil c.args.composed.now.items))
