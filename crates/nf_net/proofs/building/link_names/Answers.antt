use Rattle.std.proofs.Common.{◌++◌, List, ◌∷◌, [], refl, ◌∙◌, ap}
use Rattle.nf_net.proofs.Common.{Name, NamedLink, names_of, filled, filled_all}
use Rattle.nf_net.proofs.building.link_names.Goals as goal

pub loop-link-preserved : goal.loop-link-preserved
loop-link-preserved c =
    let front : List Name = c.loop-link.names.items in
    filled names_of c.args.links.now c.loop-link.link-index c.link-item.result front (c.link-item.result.name ∷ []) _ _
    (c.in_ok-push.ensures.items ∙ ap (λ (x : Name). front ++ x ∷ []) (c.copy.ensures ∙ ap (λ (l : NamedLink). l.name) c.link.view_is))
    c.loop-link-test.true c.link-item.is refl c.loop-link.invariant

pub returns : goal.returns
returns c = filled_all names_of c.args.links.now c.loop-link.link-index c.loop-link.names.items _ c.loop-link-test.false refl c.loop-link.invariant
