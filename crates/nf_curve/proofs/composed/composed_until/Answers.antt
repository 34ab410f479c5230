use Rattle.std.proofs.Common.{List, refl, sym, ap, subst, ◌∙◌, slice_get}
use Rattle.nf_curve.proofs.Common.{err_from_is_err_and, ℚ, 0ℚ, ◌≤ℚ◌, passes_Q, at_part, IsCurve, checked_cut, checked_composed, checked_cut-values}
use Rattle.nf_curve.proofs.Common.{checked_cut-each}
use Rattle.nf_curve.proofs.Exits.{was_ok, stops_on}
use Rattle.nf_curve.proofs.Composing.{cut_stops, cut_goes}
use Rattle.nf_curve.proofs.composed.composed_until.Goals as goal

pub returns-in_err-cut : goal.returns-in_err-cut
returns-in_err-cut c =
    let p = err_from_is_err_and c.from_residual.result c.from_residual.ensures.1 in
    rw (p.1, p.2) (stops_on c.in_err-cut.field-0.0 (at_part c.args.part (checked_cut passes_Q c.args.inner.now c.args.last))
    (at_part c.args.part (checked_composed passes_Q c.args.outer.now c.args.inner.now c.args.last))
    (λ a e. cut_stops passes_Q c.args.part c.args.outer.now c.args.inner.now c.args.last a e) c.in_err-cut.ensures)

pub composed_points-requires-2-clause-inner : goal.composed_points-requires-2-clause-inner
composed_points-requires-2-clause-inner c = subst (λ (l : List (ℚ × ℚ)). IsCurve l) (sym c.deref.ensures.value)
    (checked_cut-values passes_Q c.args.inner.now c.args.last c.in_ok-cut.cut.items c.requires.inner c.requires.last
    (was_ok c.args.part (checked_cut passes_Q c.args.inner.now c.args.last) c.in_ok-cut.cut.items c.in_ok-cut.ensures)).curve

pub composed_points-requires-2-clause-values : goal.composed_points-requires-2-clause-values
composed_points-requires-2-clause-values c = λ i p e.
    let w = checked_cut-each passes_Q c.args.inner.now c.args.last c.in_ok-cut.cut.items i p c.requires.inner c.requires.last
    (was_ok c.args.part (checked_cut passes_Q c.args.inner.now c.args.last) c.in_ok-cut.cut.items c.in_ok-cut.ensures)
    (ap (λ (l : List (ℚ × ℚ)). slice_get l i) (sym c.deref.ensures.value) ∙ e) in
    subst (λ (y : ℚ). 0ℚ ≤ℚ y) w.value (c.requires.values p.0 (w.from_on, w.up_to))

pub returns : goal.returns
returns c =
    let e = cut_goes passes_Q c.args.part c.args.outer.now c.args.inner.now c.args.last c.in_ok-cut.cut.items c.deref.result.now c.in_ok-cut.ensures c.deref.ensures.value in
    rw e c.composed_points-2.ensures

-- ---- where the inner curve is its own cut
pub composed_points-requires-clause-values : goal.composed_points-requires-clause-values
composed_points-requires-clause-values c = λ i p e.
    let w = checked_cut-each passes_Q c.args.inner.now c.args.last c.args.inner.now i p c.requires.inner c.requires.last (c.ends_at.ensures.whole c.if-ends_at.true) e in
    subst (λ (y : ℚ). 0ℚ ≤ℚ y) w.value (c.requires.values p.0 (w.from_on, w.up_to))

pub returns-then-ends_at : goal.returns-then-ends_at
returns-then-ends_at c =
    let e = cut_goes passes_Q c.args.part c.args.outer.now c.args.inner.now c.args.last c.args.inner.now c.args.inner.now
    (ap (at_part c.args.part) (c.ends_at.ensures.whole c.if-ends_at.true)) refl in
    rw e c.composed_points.ensures
