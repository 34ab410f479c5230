use Rattle.std.proofs.Common.{List, map, sym, ap, ◌∙◌}
use Rattle.nf_routes_links.proofs.Common.{map-append, passes_Q, Grown, last_entry, but_last}
use Rattle.nf_routes_links.proofs.Lists.{last_push, but_last-push}
use Rattle.nf_routes_links.proofs.stages.Stages.end.Goals as goal

pub returns-in-Some-clause-sent : goal.returns-in-Some-clause-sent
returns-in-Some-clause-sent c =
    sym (but_last-push passes_Q (map (λ (g : Grown). g.points) c.pop.new.self.items) c.in-Some.arrival.points)
    ∙ ap (but_last passes_Q) (sym (map-append (λ (g : Grown). g.points) c.pop.new.self.items _)
    ∙ ap (λ (l : List Grown). map (λ (g : Grown). g.points) l) (sym c.in-Some.ensures.items) ∙ c.self.view_is)

pub returns-in-Some-clause-arrival : goal.returns-in-Some-clause-arrival
returns-in-Some-clause-arrival c =
    sym (last_push (map (λ (g : Grown). g.points) c.pop.new.self.items) c.in-Some.arrival.points)
    ∙ ap last_entry (sym (map-append (λ (g : Grown). g.points) c.pop.new.self.items _)
    ∙ ap (λ (l : List Grown). map (λ (g : Grown). g.points) l) (sym c.in-Some.ensures.items) ∙ c.self.view_is)
