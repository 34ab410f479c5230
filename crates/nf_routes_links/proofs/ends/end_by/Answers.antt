use Rattle.std.proofs.Common.{ℕ, ◌<◌, List, length, refl, ap, ◌∙◌, arith}
use Rattle.nf_routes_links.proofs.Common.{slice_get_read, pairs_of, end_by}
use Rattle.nf_routes_links.proofs.Greatest.{end_route}
use Rattle.nf_routes_links.proofs.ends.end_by.Goals as goal

pub loop-route-preserved : goal.loop-route-preserved
loop-route-preserved c =
    let inside : c.loop-route.route-index < length c.args.routes.now = omega arith in
    end_route c.args.routes.now c.args.links.now c.args.link c.loop-route.route-index c.loop-route.end c.end_along-end.result _ c.route-item.result
    (slice_get_read c.args.routes.now _ c.loop-route.route-index c.route-item.result refl inside c.route-item.is) c.loop-route.invariant
    (c.end_along-end.ensures ∙ ap (λ (l : List ℕ). end_by c.loop-route.end (pairs_of l) c.args.links.now c.args.link) c.links.ensures)
