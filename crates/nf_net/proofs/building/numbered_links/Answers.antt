use Rattle.std.proofs.Common.{◌++◌, List, [], ◌∷◌, map, refl, ◌∙◌, ap}
use Rattle.nf_net.proofs.Common.{Link, numbered, filled, filled_all}
use Rattle.nf_net.proofs.building.numbered_links.Goals as goal

pub loop-link-preserved : goal.loop-link-preserved
loop-link-preserved c =
    let front : List Link = c.loop-link.numbers.items in
    filled (map (numbered c.args.nodes.now)) c.args.links.now c.loop-link.link-index c.link-item.result front _ _ _
    (c.in_ok-push.ensures.items ∙ ap (λ (link : Link). front ++ link ∷ []) c.number.ensures)
    c.loop-link-test.true c.link-item.is refl c.loop-link.invariant

pub returns : goal.returns
returns c =
    filled_all (map (numbered c.args.nodes.now)) c.args.links.now c.loop-link.link-index c.loop-link.numbers.items _ c.loop-link-test.false refl c.loop-link.invariant
