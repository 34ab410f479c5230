use Rattle.std.proofs.Common.{◌≡◌, ◌<◌, ◌+◌, ◌-◌, List, [], ◌∷◌, ◌++◌, length, refl, sym, ap, subst, ◌∙◌, arith, Option, slice_get, if◌then◌else◌}
use Rattle.nf_load.proofs.Common.{slice_get_read, same_Some, err_from_is_err_and, ℚ, passes_Q, is_same, begin_stops, begin_goes, step_stops, step_goes}
use Rattle.nf_load.proofs.Common.{short_ends, short_alone, IsRate}
use Rattle.nf_curve.proofs.Points.{points_there}
use Rattle.nf_curve.proofs.Placing.{rise-pairs, curve-rises, before_last, next_there, last_there}
use Rattle.nf_load.proofs.Alongs.{slope_at}
use Rattle.nf_load.proofs.shortening.short_points.Goals as goal

pub bounds-points-0 : goal.bounds-points-0
bounds-points-0 c = points_there c.args.points.now c.requires.curve

pub returns-then-points-eq1 : goal.returns-then-points-eq1
returns-then-points-eq1 c =
    let b : 0 < length c.args.points.now = omega arith in
    let g = slice_get_read c.args.points.now _ 0 c.index-points-0.result refl b c.index-points-0.is in
    let one : c.push.new.self.items ≡ c.index-points-0.result ∷ [] = c.in_ok-push.ensures.items
    ∙ ap (λ (l : List (ℚ × ℚ)). l ++ c.index-points-0.result ∷ []) c.in_ok-short.ensures.items in
    rw one (short_alone passes_Q c.args.part c.args.points.now c.index-points-0.result g c.if-points-eq1.true)

pub bounds-points-0-2 : goal.bounds-points-0-2
bounds-points-0-2 c = points_there c.args.points.now c.requires.curve

pub bounds-points-1 : goal.bounds-points-1
bounds-points-1 c = let some = points_there c.args.points.now c.requires.curve in omega arith

pub slope_or-requires-clause-later : goal.slope_or-requires-clause-later
slope_or-requires-clause-later c =
    let a : 0 < length c.args.points.now = points_there c.args.points.now c.requires.curve in
    let b : 1 < length c.args.points.now = omega arith in
    rise-pairs c.args.points.now 0 1 c.index-points-0-2.result c.index-points-1.result (curve-rises c.args.points.now c.requires.curve)
    (slice_get_read c.args.points.now _ 0 c.index-points-0-2.result refl a c.index-points-0-2.is)
    (slice_get_read c.args.points.now _ 1 c.index-points-1.result refl b c.index-points-1.is) (omega arith)

pub slope_or-requires-clause-known : goal.slope_or-requires-clause-known
slope_or-requires-clause-known c =
    let a : 0 < length c.args.points.now = points_there c.args.points.now c.requires.curve in
    let b : 1 < length c.args.points.now = omega arith in
    subst (λ (k : Option ℚ). IsRate k c.index-points-0-2.result c.index-points-1.result) (sym c.known_at.ensures)
    (slope_at c.args.points.now c.args.slopes.now 0 1 c.index-points-0-2.result c.index-points-1.result c.requires.slopes
    (slice_get_read c.args.points.now _ 0 c.index-points-0-2.result refl a c.index-points-0-2.is)
    (slice_get_read c.args.points.now _ 1 c.index-points-1.result refl b c.index-points-1.is) (omega arith))

pub returns-in_err-before : goal.returns-in_err-before
returns-in_err-before c =
    let p = err_from_is_err_and c.from_residual-in_err-before.result c.from_residual-in_err-before.ensures.1 in
    let a : 0 < length c.args.points.now = points_there c.args.points.now c.requires.curve in
    let b : 1 < length c.args.points.now = omega arith in
    rw (p.1, p.2) (begin_stops passes_Q c.args.part c.args.points.now c.index-points-0-2.result c.index-points-1.result
    (slice_get_read c.args.points.now _ 0 c.index-points-0-2.result refl a c.index-points-0-2.is)
    (slice_get_read c.args.points.now _ 1 c.index-points-1.result refl b c.index-points-1.is)
    c.in_err-before.field-0.0 (sym c.in_err-before.ensures))

pub overflow_sub-i-end : goal.overflow_sub-i-end
overflow_sub-i-end c = let some = points_there c.args.points.now c.requires.curve in omega arith

pub loop-i-init : goal.loop-i-init
loop-i-init c =
    let a : 0 < length c.args.points.now = points_there c.args.points.now c.requires.curve in
    let b : 1 < length c.args.points.now = omega arith in
    let g = slice_get_read c.args.points.now _ 0 c.index-points-0-2.result refl a c.index-points-0-2.is in
    let k = slice_get_read c.args.points.now _ 0 c.index-points-0.result refl a c.index-points-0.is in
    let same : c.index-points-0.result ≡ c.index-points-0-2.result = same_Some _ _ (sym k ∙ g) in
    let one : c.push.new.self.items ≡ c.index-points-0-2.result ∷ [] = c.in_ok-push.ensures.items
    ∙ ap (λ (l : List (ℚ × ℚ)). l ++ c.index-points-0.result ∷ []) c.in_ok-short.ensures.items
    ∙ ap (λ (x : ℚ × ℚ). x ∷ []) same in
    rw one (begin_goes passes_Q c.args.part c.args.points.now c.index-points-0-2.result c.index-points-1.result
    g (slice_get_read c.args.points.now _ 1 c.index-points-1.result refl b c.index-points-1.is)
    c.in_ok-before.before (sym c.in_ok-before.ensures))

pub slope_or-requires-in-loop-i-clause-later : goal.slope_or-requires-in-loop-i-clause-later
slope_or-requires-in-loop-i-clause-later c =
    let a : c.loop-i.i < length c.args.points.now = before_last c.loop-i.i _ c.loop-i-test.true in
    let b : c.loop-i.i + 1 < length c.args.points.now = next_there c.loop-i.i _ c.loop-i-test.true in
    rise-pairs c.args.points.now c.loop-i.i (c.loop-i.i + 1) c.index-points-i.result c.index-points-i-in-loop-i.result (curve-rises c.args.points.now c.requires.curve)
    (slice_get_read c.args.points.now _ c.loop-i.i c.index-points-i.result refl a c.index-points-i.is)
    (slice_get_read c.args.points.now _ (c.loop-i.i + 1) c.index-points-i-in-loop-i.result refl b c.index-points-i-in-loop-i.is) (omega arith)

pub slope_or-requires-in-loop-i-clause-known : goal.slope_or-requires-in-loop-i-clause-known
slope_or-requires-in-loop-i-clause-known c =
    let a : c.loop-i.i < length c.args.points.now = before_last c.loop-i.i _ c.loop-i-test.true in
    let b : c.loop-i.i + 1 < length c.args.points.now = next_there c.loop-i.i _ c.loop-i-test.true in
    subst (λ (k : Option ℚ). IsRate k c.index-points-i.result c.index-points-i-in-loop-i.result) (sym c.known_at-in-loop-i.ensures)
    (slope_at c.args.points.now c.args.slopes.now c.loop-i.i (c.loop-i.i + 1) c.index-points-i.result c.index-points-i-in-loop-i.result c.requires.slopes
    (slice_get_read c.args.points.now _ c.loop-i.i c.index-points-i.result refl a c.index-points-i.is)
    (slice_get_read c.args.points.now _ (c.loop-i.i + 1) c.index-points-i-in-loop-i.result refl b c.index-points-i-in-loop-i.is) (omega arith))

pub returns-in_err-after : goal.returns-in_err-after
returns-in_err-after c =
    let p = err_from_is_err_and c.from_residual-in_err-after.result c.from_residual-in_err-after.ensures.1 in
    let a : c.loop-i.i < length c.args.points.now = before_last c.loop-i.i _ c.loop-i-test.true in
    let b : c.loop-i.i + 1 < length c.args.points.now = next_there c.loop-i.i _ c.loop-i-test.true in
    rw (p.1, p.2) (step_stops passes_Q c.args.part c.args.points.now c.loop-i.short.items c.loop-i.before c.loop-i.i
    (c.loop-i.i + 1) c.index-points-i.result c.index-points-i-in-loop-i.result (omega arith)
    (slice_get_read c.args.points.now _ c.loop-i.i c.index-points-i.result refl a c.index-points-i.is)
    (slice_get_read c.args.points.now _ (c.loop-i.i + 1) c.index-points-i-in-loop-i.result refl b c.index-points-i-in-loop-i.is)
    c.loop-i.invariant c.in_err-after.field-0.0 (sym c.in_err-after.ensures))

pub loop-i-preserved : goal.loop-i-preserved
loop-i-preserved c =
    let a : c.loop-i.i < length c.args.points.now = before_last c.loop-i.i _ c.loop-i-test.true in
    let b : c.loop-i.i + 1 < length c.args.points.now = next_there c.loop-i.i _ c.loop-i-test.true in
    let g = slice_get_read c.args.points.now _ c.loop-i.i c.index-points-i.result refl a c.index-points-i.is in
    let k = slice_get_read c.args.points.now _ c.loop-i.i c.index-points-i-in-loop-i-2.result refl a c.index-points-i-in-loop-i-2.is in
    let same : c.index-points-i-in-loop-i-2.result ≡ c.index-points-i.result = same_Some _ _ (sym k ∙ g) in
    step_goes passes_Q c.args.part c.args.points.now c.loop-i.short.items c.loop-i.before c.loop-i.i
    (c.loop-i.i + 1) c.index-points-i.result c.index-points-i-in-loop-i.result (omega arith)
    g (slice_get_read c.args.points.now _ (c.loop-i.i + 1) c.index-points-i-in-loop-i.result refl b c.index-points-i-in-loop-i.is)
    c.loop-i.invariant c.in_ok-after.after c.keep_if_turning.new.short.items (sym c.in_ok-after.ensures)
    (c.in_ok-keep_if_turning.ensures ∙ ap (λ (x : ℚ × ℚ). if is_same c.loop-i.before c.in_ok-after.after then c.loop-i.short.items else c.loop-i.short.items ++ x ∷ []) same)

pub overflow_sub-points : goal.overflow_sub-points
overflow_sub-points c = let some = points_there c.args.points.now c.requires.curve in omega arith

pub bounds-points-points : goal.bounds-points-points
bounds-points-points c = let some = points_there c.args.points.now c.requires.curve in omega arith

pub returns : goal.returns
returns c =
    let a : 0 < length c.args.points.now = points_there c.args.points.now c.requires.curve in
    let b : length c.args.points.now - 1 < length c.args.points.now = last_there _ a in
    let i : c.loop-i.i ≡ length c.args.points.now - 1 = omega arith in
    let g = slice_get_read c.args.points.now _ (length c.args.points.now - 1) c.index-points-points.result refl b c.index-points-points.is in
    rw (c.shrink_to_fit.ensures.items ∙ c.in_ok-push-2.ensures.items) (short_ends passes_Q c.args.part c.args.points.now c.loop-i.short.items
    c.loop-i.before c.loop-i.i c.index-points-points.result
    (ap (slice_get c.args.points.now) i ∙ g) (omega arith) c.loop-i.invariant)

pub returns-in_err-short : goal.returns-in_err-short
returns-in_err-short c = let p = err_from_is_err_and c.from_residual.result c.from_residual.ensures.1 in rw (p.1, p.2) tt

pub returns-in_err-push : goal.returns-in_err-push
returns-in_err-push c =
    let p = err_from_is_err_and c.from_residual-in_err-push.result c.from_residual-in_err-push.ensures.1 in rw (p.1, p.2) tt

pub returns-in_err-keep_if_turning : goal.returns-in_err-keep_if_turning
returns-in_err-keep_if_turning c =
    let p = err_from_is_err_and c.from_residual-in_err-keep_if_turning.result c.from_residual-in_err-keep_if_turning.ensures.1 in rw (p.1, p.2) tt

pub returns-in_err-push-2 : goal.returns-in_err-push-2
returns-in_err-push-2 c =
    let p = err_from_is_err_and c.from_residual-in_err-push-2.result c.from_residual-in_err-push-2.ensures.1 in rw (p.1, p.2) tt

pub bounds-points-i : goal.bounds-points-i
bounds-points-i c = before_last c.loop-i.i _ c.loop-i-test.true

pub bounds-points-i-in-loop-i : goal.bounds-points-i-in-loop-i
bounds-points-i-in-loop-i c = next_there c.loop-i.i _ c.loop-i-test.true

pub bounds-points-i-in-loop-i-2 : goal.bounds-points-i-in-loop-i-2
bounds-points-i-in-loop-i-2 c = before_last c.loop-i.i _ c.loop-i-test.true
