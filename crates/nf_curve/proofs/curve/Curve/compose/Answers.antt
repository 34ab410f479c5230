use Rattle.std.proofs.Common.{◌≡◌}
use Rattle.nf_curve.proofs.Common.{passes_Q, checked_composed, checked_composed-is}
use Rattle.nf_curve.proofs.Exits.{was_ok}
use Rattle.nf_curve.proofs.Points.{points_seen, curve_seen}
use Rattle.nf_curve.proofs.curve.Curve.compose.Goals as goal

pub composed_until-requires-clause-values : goal.composed_until-requires-clause-values
composed_until-requires-clause-values c =
    let inner : c.deref-2.result.now ≡ c.args.inner.now.points = points_seen _ _ _ _ c.deref-2.ensures.value c.inner.view_is in
    rw inner c.requires.inner

pub returns-clause-list : goal.returns-clause-list
returns-clause-list c =
    let outer : c.deref.result.now ≡ c.args.outer.now.points = points_seen _ _ _ _ c.deref.ensures.value c.outer.view_is in
    let inner : c.deref-2.result.now ≡ c.args.inner.now.points = points_seen _ _ _ _ c.deref-2.ensures.value c.inner.view_is in
    rw (outer, inner) at c.in_ok-points.ensures

pub invariant_of-result : goal.invariant_of-result
invariant_of-result c =
    let outer : c.deref.result.now ≡ c.args.outer.now.points = points_seen _ _ _ _ c.deref.ensures.value c.outer.view_is in
    let inner : c.deref-2.result.now ≡ c.args.inner.now.points = points_seen _ _ _ _ c.deref-2.ensures.value c.inner.view_is in
    (checked_composed-is passes_Q c.args.outer.now.points c.args.inner.now.points c.args.until c.in_ok-points.points.items
    (curve_seen _ _ _ c.outer.invariant c.outer.view_is) (curve_seen _ _ _ c.inner.invariant c.inner.view_is) c.requires.until c.requires.inner
    (was_ok c.args.part (checked_composed passes_Q c.args.outer.now.points c.args.inner.now.points c.args.until) c.in_ok-points.points.items
    (rw (outer, inner) at c.in_ok-points.ensures))).curve

pub returns-clause-composed : goal.returns-clause-composed
returns-clause-composed c =
    let outer : c.deref.result.now ≡ c.args.outer.now.points = points_seen _ _ _ _ c.deref.ensures.value c.outer.view_is in
    let inner : c.deref-2.result.now ≡ c.args.inner.now.points = points_seen _ _ _ _ c.deref-2.ensures.value c.inner.view_is in
    checked_composed-is passes_Q c.args.outer.now.points c.args.inner.now.points c.args.until c.in_ok-points.points.items
    (curve_seen _ _ _ c.outer.invariant c.outer.view_is) (curve_seen _ _ _ c.inner.invariant c.inner.view_is) c.requires.until c.requires.inner
    (was_ok c.args.part (checked_composed passes_Q c.args.outer.now.points c.args.inner.now.points c.args.until) c.in_ok-points.points.items
    (rw (outer, inner) at c.in_ok-points.ensures))
