use Rattle.std.proofs.Common.{◌++◌, List, ◌∷◌, [], refl, ◌∙◌, ap}
use Rattle.nf_net.proofs.Common.{Name, filled, filled_all}
use Rattle.nf_net.proofs.building.copied.Goals as goal

pub loop-name-preserved : goal.loop-name-preserved
loop-name-preserved c =
    let front : List Name = c.loop-name.copies.items in
    filled (λ (l : List Name). l) c.args.names.now c.loop-name.name-index c.name-item.result front (c.name-item.result ∷ []) _ _
    (c.in_ok-push.ensures.items ∙ ap (λ (x : Name). front ++ x ∷ []) c.copy.ensures)
    c.loop-name-test.true c.name-item.is refl c.loop-name.invariant

pub returns : goal.returns
returns c = filled_all (λ (l : List Name). l) c.args.names.now c.loop-name.name-index c.loop-name.copies.items _ c.loop-name-test.false refl c.loop-name.invariant
