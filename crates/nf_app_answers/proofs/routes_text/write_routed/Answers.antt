use Rattle.std.proofs.Common.{List, [], ◌∷◌, ◌++◌, length, refl, sym, ap, ◌∙◌, append_assoc, codes, map}
use Rattle.nf_app_answers.proofs.Common.{length-map, printed, for_each, loaded_of, link_curve_lines, route_lines, routed_lines, with_kept_entries, Line}
use Rattle.nf_app_answers.proofs.Common.{wrote_next, wrote_failed, wrote_then_failed, same_lines}
use Rattle.nf_app_answers.proofs.RouteLines.{links_told}
use Rattle.nf_app_answers.proofs.routes_text.write_routed.Goals as goal

pub write_links-requires : goal.write_links-requires
write_links-requires g c = ap length c.deref.ensures.value ∙ c.requires.links

pub write_routes-requires-clause-arrivals : goal.write_routes-requires-clause-arrivals
write_routes-requires-clause-arrivals g c = c.requires.arrivals

pub write_routes-requires-clause-travels : goal.write_routes-requires-clause-travels
write_routes-requires-clause-travels g c = c.requires.travels

pub returns-in_err-write_head : goal.returns-in_err-write_head
returns-in_err-write_head g c =
    let head = (codes "routed" ∷ codes "1" ∷ []) ∷ (codes "horizon" ∷ printed c.args.horizon ∷ []) ∷ [] in
    let routed = with_kept_entries [] c.args.routed.now in
    let links = for_each (length c.args.net.now.net.links) (link_curve_lines c.args.net.now routed) in
    let routes = for_each (length c.args.routes.now) (route_lines c.args.routes.now routed) in
    let end = (codes "end" ∷ []) ∷ [] in
    let all = routed_lines c.args.net.now c.args.routes.now c.args.horizon routed in
    wrote_failed head (links ++ routes ++ end) all c.from_residual.result refl c.from_residual.ensures.0 c.in_err-write_head.ensures

pub returns-in_err-write_links : goal.returns-in_err-write_links
returns-in_err-write_links g c =
    let head = (codes "routed" ∷ codes "1" ∷ []) ∷ (codes "horizon" ∷ printed c.args.horizon ∷ []) ∷ [] in
    let routed = with_kept_entries [] c.args.routed.now in
    let links = for_each (length c.args.net.now.net.links) (link_curve_lines c.args.net.now routed) in
    let routes = for_each (length c.args.routes.now) (route_lines c.args.routes.now routed) in
    let end = (codes "end" ∷ []) ∷ [] in
    let all = routed_lines c.args.net.now c.args.routes.now c.args.horizon routed in
    let told = links_told c.args.net.now routed c.deref.result.now (ap (map loaded_of) c.deref.ensures.value) (length-map c.args.routed.now.links.items loaded_of ∙ c.requires.links) in
    wrote_then_failed head links (routes ++ end) all c.from_residual-in_err-write_links.result (ap (λ (l : List Line). head ++ l) (sym (append_assoc links routes end)))
    c.from_residual-in_err-write_links.ensures.0 c.in_ok-write_head.ensures (same_lines _ links told c.in_err-write_links.ensures)

pub returns-in_err-write_routes : goal.returns-in_err-write_routes
returns-in_err-write_routes g c =
    let head = (codes "routed" ∷ codes "1" ∷ []) ∷ (codes "horizon" ∷ printed c.args.horizon ∷ []) ∷ [] in
    let routed = with_kept_entries [] c.args.routed.now in
    let links = for_each (length c.args.net.now.net.links) (link_curve_lines c.args.net.now routed) in
    let routes = for_each (length c.args.routes.now) (route_lines c.args.routes.now routed) in
    let end = (codes "end" ∷ []) ∷ [] in
    let all = routed_lines c.args.net.now c.args.routes.now c.args.horizon routed in
    let told = links_told c.args.net.now routed c.deref.result.now (ap (map loaded_of) c.deref.ensures.value) (length-map c.args.routed.now.links.items loaded_of ∙ c.requires.links) in
    wrote_then_failed (head ++ links) routes end all c.from_residual-in_err-write_routes.result refl c.from_residual-in_err-write_routes.ensures.0
    (wrote_next head links (head ++ links) refl c.in_ok-write_head.ensures (same_lines _ links told c.in_ok-write_links.ensures)) c.in_err-write_routes.ensures

pub returns : goal.returns
returns g c =
    let head = (codes "routed" ∷ codes "1" ∷ []) ∷ (codes "horizon" ∷ printed c.args.horizon ∷ []) ∷ [] in
    let routed = with_kept_entries [] c.args.routed.now in
    let links = for_each (length c.args.net.now.net.links) (link_curve_lines c.args.net.now routed) in
    let routes = for_each (length c.args.routes.now) (route_lines c.args.routes.now routed) in
    let end = (codes "end" ∷ []) ∷ [] in
    let all = routed_lines c.args.net.now c.args.routes.now c.args.horizon routed in
    let told = links_told c.args.net.now routed c.deref.result.now (ap (map loaded_of) c.deref.ensures.value) (length-map c.args.routed.now.links.items loaded_of ∙ c.requires.links) in
    wrote_next (head ++ links ++ routes) end all refl
    (wrote_next (head ++ links) routes (head ++ links ++ routes) refl
    (wrote_next head links (head ++ links) refl c.in_ok-write_head.ensures (same_lines _ links told c.in_ok-write_links.ensures)) c.in_ok-write_routes.ensures) c.write_line.ensures
