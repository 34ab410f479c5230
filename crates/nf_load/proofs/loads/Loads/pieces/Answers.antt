use Rattle.std.proofs.Common.{◌<◌, List, length, sym, ap, subst, ◌∙◌}
use Rattle.nf_load.proofs.Common.{Piece, ArePieces, pieces_at}
use Rattle.nf_load.proofs.Pushed.{read_at}
use Rattle.nf_load.proofs.loads.Loads.pieces.Goals as goal

pub returns-clause-pieces : goal.returns-clause-pieces
returns-clause-pieces c =
    let lt = subst (λ (l : List (List Piece)). c.args.link < length l) (sym c.self.view_is) c.requires in
    subst ArePieces (sym (c.as_slice.ensures ∙ read_at c.self.inside.links.items c.index.result c.args.link c.index-2.result.now c.index.ensures lt
    c.index-2.ensures)) (c.self.invariant.each c.args.link)

pub returns-clause-value : goal.returns-clause-value
returns-clause-value c =
    let lt = subst (λ (l : List (List Piece)). c.args.link < length l) (sym c.self.view_is) c.requires in
    c.as_slice.ensures
    ∙ read_at c.self.inside.links.items c.index.result c.args.link c.index-2.result.now c.index.ensures lt c.index-2.ensures
    ∙ ap (λ (l : List (List Piece)). pieces_at l c.args.link) c.self.view_is
