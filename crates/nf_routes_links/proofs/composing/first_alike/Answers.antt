use Rattle.std.proofs.Common.{◌<◌, length, refl, sym, ap, ◌∙◌, arith}
use Rattle.nf_routes_links.proofs.Common.{slice_get_read, links_of}
use Rattle.nf_routes_links.proofs.composing.first_alike.Goals as goal

pub returns-then-has_same_links-clause-alike : goal.returns-then-has_same_links-clause-alike
returns-then-has_same_links-clause-alike c =
    let inside : c.loop-i.i < length c.args.routes.now = omega arith in
    let here = slice_get_read c.args.routes.now _ c.loop-i.i c.index-routes-i.result refl inside c.index-routes-i.is in
    let there = slice_get_read c.args.routes.now _ c.args.route c.index-routes-route.result refl c.requires c.index-routes-route.is in
    ap links_of here ∙ sym c.links.ensures ∙ c.has_same_links.ensures c.if-has_same_links.true ∙ c.links-in-loop-i.ensures ∙ sym (ap links_of there)
