use Rattle.std.proofs.Common.{ℕ, ◌<◌, List, length, Option, set, refl, sym, ap, subst, ◌∙◌}
use Rattle.nf_routes_read.proofs.Common.{slice_get_read, NamedRoute, RoutesDraft, routes_after, with_piece, seen_entry}
use Rattle.nf_routes_read.proofs.draft.Draft.add.Goals as goal

pub returns-in_ok-push-in-Rate : goal.returns-in_ok-push-in-Rate
returns-in_ok-push-in-Rate c =
    let routes = c.self.inside.routes.items in
    let drafted : List NamedRoute → RoutesDraft = λ routes. record { routes = routes; ended = c.self.inside.ended } in
    let lt = subst (λ (d : RoutesDraft). c.in-Rate.place < length d.routes) (sym c.self.view_is) (rw c.in-Rate.is at c.requires) in
    let here = slice_get_read routes _ c.in-Rate.place c.index_mut.result.now refl lt c.index_mut.ensures.value in
    ap (λ (r : NamedRoute). drafted (set routes c.in-Rate.place r)) c.in_ok-push-in-Rate.ensures.ok
    ∙ sym (ap (λ (o : Option NamedRoute). drafted (with_piece c.in-Rate.piece o routes c.in-Rate.place)) here)
    ∙ ap (λ e. routes_after (drafted routes) (seen_entry e)) (sym c.in-Rate.is)
    ∙ ap (λ (d : RoutesDraft). routes_after d (seen_entry c.args.entry)) c.self.view_is
