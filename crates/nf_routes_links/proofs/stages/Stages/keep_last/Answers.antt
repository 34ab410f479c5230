use Rattle.std.proofs.Common.{◌≡◌, List, [], ◌∷◌, map, sym, ap, subst, ◌∙◌, OnOk}
use Rattle.nf_routes_links.proofs.Common.{map-append, Point, Grown, last_alone}
use Rattle.nf_routes_links.proofs.Alone.{alone_push}
use Rattle.nf_routes_links.proofs.stages.Stages.keep_last.Goals as goal

pub returns : goal.returns
returns c =
    let before = sym (map-append (λ (g : Grown). g.points) c.pop.new.self.items _)
    ∙ ap (λ (l : List Grown). map (λ (g : Grown). g.points) l) (sym c.in-Some.ensures.items) ∙ c.self.view_is in
    let last : last_alone c.args.self.now ≡ c.in-Some.last.points ∷ [] = ap last_alone (sym before)
    ∙ alone_push (map (λ (g : Grown). g.points) c.pop.new.self.items) c.in-Some.last.points in
    subst (λ (l : List (List Point)). OnOk c.begin.result (c.begin.new.self ≡ l)) (sym last) c.begin.ensures
