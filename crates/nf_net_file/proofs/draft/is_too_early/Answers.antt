use Rattle.std.proofs.Common.{◌<◌, sym, ◌∙◌, ap, length, arith}
use Rattle.nf_net_file.proofs.Common.{nat_tests, le_ℚ, Piece}
use Rattle.nf_net_file.proofs.LastPiece.{late_by_last, late_of_none}
use Rattle.nf_net_file.proofs.draft.is_too_early.Goals as goal

pub returns : goal.returns
returns c =
    let some : 0 < length c.args.pieces.now = grind (arith, nat_tests) in
    c.is_at_most.ensures
    ∙ ap (λ (p : Piece). le_ℚ c.args.start p.start) c.last.view_is
    ∙ late_by_last c.args.start c.args.pieces.now c.index-pieces-pieces.result some c.index-pieces-pieces.is

pub returns-then-is_empty : goal.returns-then-is_empty
returns-then-is_empty c = late_of_none c.args.start c.args.pieces.now (sym c.is_empty.ensures ∙ c.if-is_empty.true)
