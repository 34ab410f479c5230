use Rattle.std.proofs.Common.{◌++◌, List, [], ◌∷◌, refl, ◌∙◌, ap}
use Rattle.nf_net_file.proofs.Common.{Hop, hops_among}
use Rattle.nf_net_file.proofs.Filling.{filled, filled_all}
use Rattle.nf_net_file.proofs.closing.hops_of.Goals as goal

pub loop-link-preserved : goal.loop-link-preserved
loop-link-preserved c =
    let front : List Hop = c.loop-link.hops.items in
    filled (hops_among c.args.nodes.now) c.args.links.now c.loop-link.link-index c.link-item.result front _ _ _
    (c.in_ok-push.ensures.items ∙ ap (λ (hop : Hop). front ++ hop ∷ []) c.hop_between.ensures)
    c.loop-link-test.true c.link-item.is refl c.loop-link.invariant

pub returns : goal.returns
returns c = filled_all (hops_among c.args.nodes.now) c.args.links.now c.loop-link.link-index c.loop-link.hops.items _ c.loop-link-test.false refl c.loop-link.invariant
