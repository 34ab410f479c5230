use Rattle.std.proofs.Common.{ℕ, List, sym, ap, subst, ◌∙◌}
use Rattle.nf_routes_read.proofs.Common.{takes_all, NamedRoute, RoutesDraft, routes_of, AreSound, kept_routes}
use Rattle.nf_routes_read.proofs.draft.Draft.close.Goals as goal

pub kept-requires : goal.kept-requires
kept-requires c =
    kept_routes c.args.net.now c.self.inside.routes.items (subst (λ (d : RoutesDraft). AreSound c.args.net.now.net d.routes) (sym c.self.view_is) c.requires)
    (ap (λ (k : ℕ). takes_all k (routes_of c.self.inside.routes.items)) (sym c.link_count.ensures)
    ∙ ap (λ (l : List NamedRoute). takes_all c.link_count.result (routes_of l)) (sym c.deref.ensures.value)
    ∙ sym c.in_ok-takes_all.ensures ∙ c.if-not-branch.false)
