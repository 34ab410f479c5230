use Rattle.std.proofs.Common.{List, [], ◌∷◌, ◌++◌, take, ap, ◌∙◌}
use Rattle.nf_routes_links.proofs.Common.{take_all, err_from_is_err_and, Point, NamedRoute, routes_of, nothing_sent}
use Rattle.nf_routes_links.proofs.Lists.{same_of-next}
use Rattle.nf_routes_links.proofs.so_far.no_entries.Goals as goal

pub loop-route-init : goal.loop-route-init
loop-route-init c = c.new-entries.ensures.items

pub returns-in_err-push : goal.returns-in_err-push
returns-in_err-push c =
    let p = err_from_is_err_and c.from_residual.result c.from_residual.ensures.1 in
    rw p.1 tt

pub loop-route-preserved : goal.loop-route-preserved
loop-route-preserved c =
    c.in_ok-push.ensures.items ∙ ap (λ (l : List (List (List Point))). l ++ c.new.result ∷ []) c.loop-route.invariant
    ∙ ap (λ (s : List (List Point)). nothing_sent (routes_of (take c.loop-route._route-index c.args.routes.now)) ++ s ∷ []) c.new.ensures
    ∙ same_of-next (λ (r : NamedRoute). r.route) [] c.args.routes.now c.loop-route._route-index c.loop-route-test.true

pub returns : goal.returns
returns c =
    c.loop-route.invariant ∙ ap (λ (l : List NamedRoute). nothing_sent (routes_of l)) (take_all _ c.args.routes.now c.loop-route-test.false)
