use Rattle.std.proofs.Common.{◌<◌, length, get_or, refl, sym, subst, arith}
use Rattle.nf_routes_links.proofs.Common.{slice_get-get_or, slice_get_read, err_from_is_err_and, ℚ, Load, passes_Q, Checked, Stops, at_part}
use Rattle.nf_routes_links.proofs.Common.{slice_get-image, Route, NamedRoute, routes_of, begins_at, begin_if}
use Rattle.nf_routes_links.proofs.Folds.{Sent, begin_all-is, steps_stop, steps_go}
use Rattle.nf_routes_links.proofs.entries.begin_all.Goals as goal

pub begin-requires-clause-pieces : goal.begin-requires-clause-pieces
begin-requires-clause-pieces c =
    let inside : c.loop-i.i < length c.args.routes.now = omega arith in
    c.requires.pieces.each c.loop-i.i c.index-routes-i.result.route
    (slice_get-image (λ (r : NamedRoute). r.route) c.args.routes.now c.loop-i.i c.index-routes-i.result
    (slice_get_read c.args.routes.now _ c.loop-i.i c.index-routes-i.result refl inside c.index-routes-i.is))

pub returns-in_err-begin : goal.returns-in_err-begin
returns-in_err-begin c =
    let p = err_from_is_err_and c.from_residual.result c.from_residual.ensures.1 in
    let inside : c.loop-i.i < length c.args.routes.now = omega arith in
    let there : c.loop-i.i < length c.loop-i.entries = omega arith in
    rw (p.1, p.2) (subst (λ (r : Checked _). Stops (λ (q : ℚ). q) c.in_err-begin.field-0.0 (at_part Load r))
    (sym (begin_all-is passes_Q c.args.horizon c.args.link (routes_of c.args.routes.now) c.args.entries.now))
    (steps_stop (λ (route : Route) (sent : Sent). begin_if passes_Q (begins_at route.links c.args.link) c.args.horizon route sent)
    (routes_of c.args.routes.now) c.args.entries.now c.loop-i.entries c.loop-i.i c.loop-i.invariant
    c.index-routes-i.result.route (get_or c.loop-i.entries c.loop-i.i c.index-entries-i.result)
    (slice_get-image (λ (r : NamedRoute). r.route) c.args.routes.now c.loop-i.i c.index-routes-i.result
    (slice_get_read c.args.routes.now _ c.loop-i.i c.index-routes-i.result refl inside c.index-routes-i.is))
    (slice_get-get_or c.loop-i.entries c.loop-i.i c.index-entries-i.result there) c.in_err-begin.field-0.0 c.in_err-begin.ensures))

pub loop-i-preserved : goal.loop-i-preserved
loop-i-preserved c =
    let inside : c.loop-i.i < length c.args.routes.now = omega arith in
    let there : c.loop-i.i < length c.loop-i.entries = omega arith in
    steps_go (λ (route : Route) (sent : Sent). begin_if passes_Q (begins_at route.links c.args.link) c.args.horizon route sent)
    (routes_of c.args.routes.now) c.args.entries.now c.loop-i.entries c.loop-i.i c.loop-i.invariant
    c.index-routes-i.result.route (get_or c.loop-i.entries c.loop-i.i c.index-entries-i.result)
    (slice_get-image (λ (r : NamedRoute). r.route) c.args.routes.now c.loop-i.i c.index-routes-i.result
    (slice_get_read c.args.routes.now _ c.loop-i.i c.index-routes-i.result refl inside c.index-routes-i.is))
    (slice_get-get_or c.loop-i.entries c.loop-i.i c.index-entries-i.result there) c.begin.new.sent c.in_ok-begin.ensures
