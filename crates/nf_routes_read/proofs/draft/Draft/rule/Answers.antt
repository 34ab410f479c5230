use Rattle.std.proofs.Common.{◌<◌, List, length, refl, sym, ap, subst, ◌∙◌}
use Rattle.nf_routes_read.proofs.Common.{slice_get_read, Piece, RoutesDraft, pieces_of, routes_rule_of, rule_behind, seen_entry}
use Rattle.nf_routes_read.proofs.draft.Draft.rule.Goals as goal

pub returns-in-Rate : goal.returns-in-Rate
returns-in-Rate c =
    let routes = c.self.inside.routes.items in
    let drafted : RoutesDraft = record { routes = routes; ended = c.self.inside.ended } in
    let lt = subst (λ (d : RoutesDraft). c.in-Rate.place < length d.routes) (sym c.self.view_is) (rw c.in-Rate.is at c.requires.fits) in
    let here = slice_get_read routes _ c.in-Rate.place c.index.result.now refl lt c.index.ensures in
    c.piece_rule.ensures
    ∙ ap (λ (before : List Piece). rule_behind before c.in-Rate.piece) (c.pieces.ensures ∙ sym (ap pieces_of here))
    ∙ ap (λ e. routes_rule_of c.args.net.now.net drafted (seen_entry e)) (sym c.in-Rate.is)
    ∙ ap (λ (d : RoutesDraft). routes_rule_of c.args.net.now.net d (seen_entry c.args.entry.now)) c.self.view_is
