use Rattle.std.proofs.Common.{◌<◌, ℕ, List, length, map, refl, sym, ap, subst, ◌∙◌, Ok, Option, Result}
use Rattle.nf_routes_links.proofs.Common.{slice_get_read, err_from_is_err_and, ℚ, Load, PassedAt, passes_Q, at_part, Gives, Point, departures, Grown}
use Rattle.nf_routes_links.proofs.Common.{loaded_of, slice_get-image, NamedRoute, links_of, travel_along}
use Rattle.nf_routes_links.proofs.composing.next_travel.Goals as goal

pub travel-requires-clause-over : goal.travel-requires-clause-over
travel-requires-clause-over c =
    let inside : length c.args.travels.now < length c.args.routes.now = c.requires.left in
    let at = slice_get_read c.args.routes.now _ (length c.args.travels.now) c.index-routes-route.result refl inside c.index-routes-route.is in
    c.requires.over.each (length c.args.travels.now) c.index-routes-route.result.route
    (slice_get-image (λ (r : NamedRoute). r.route) c.args.routes.now (length c.args.travels.now) c.index-routes-route.result at)

pub returns-in_err-known : goal.returns-in_err-known
returns-in_err-known c =
    let p = err_from_is_err_and c.from_residual.result c.from_residual.ensures.1 in
    rw (p.1, p.2) tt

pub returns-then-alike-route : goal.returns-then-alike-route
returns-then-alike-route c =
    let there : c.first_alike-alike.result < length c.args.travels.now = c.if-alike-route.true in
    let at = slice_get_read c.args.travels.now _ c.first_alike-alike.result c.index-travels-alike.result refl there c.index-travels-alike.is in
    let along = λ (l : List ℕ). travel_along passes_Q c.args.horizon (map loaded_of c.args.links.now) l (departures c.args.horizon) in
    ap (at_part Load) (ap along (sym c.first_alike-alike.ensures.alike)
    ∙ c.requires.travels.each c.first_alike-alike.result c.index-travels-alike.result.points
    (slice_get-image (λ (g : Grown). g.points) c.args.travels.now c.first_alike-alike.result c.index-travels-alike.result at))
    ∙ ap Ok (sym c.in_ok-known.ensures)

pub returns : goal.returns
returns c =
    let inside : length c.args.travels.now < length c.args.routes.now = c.requires.left in
    let at = slice_get_read c.args.routes.now _ (length c.args.travels.now) c.index-routes-route.result refl inside c.index-routes-route.is in
    let along = λ (l : List ℕ). travel_along passes_Q c.args.horizon (map loaded_of c.args.links.now) l (departures c.args.horizon) in
    subst (λ (r : Result (List Point) (PassedAt ℚ)). Gives (λ (g : Grown). g.points) (λ (q : ℚ). q) c.travel.result r)
    (ap (at_part Load) (sym (ap (λ (o : Option NamedRoute). along (links_of o)) at))) c.travel.ensures
