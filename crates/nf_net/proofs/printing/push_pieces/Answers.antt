use Rattle.std.proofs.Common.{List, map, refl}
use Rattle.nf_net.proofs.Common.{flat_map, line_of_words, Piece, inflow_words, filled, filled_all}
use Rattle.nf_net.proofs.printing.push_pieces.Goals as goal

pub loop-piece-preserved : goal.loop-piece-preserved
loop-piece-preserved c =
    filled (λ (ps : List Piece). flat_map line_of_words (map inflow_words ps)) c.args.pieces.now c.loop-piece.piece-index c.piece-item.result
    c.loop-piece.out.items (line_of_words (inflow_words c.piece-item.result)) _ _
    c.in_ok-push_piece.ensures c.loop-piece-test.true c.piece-item.is refl c.loop-piece.invariant

pub returns : goal.returns
returns c =
    filled_all (λ (ps : List Piece). flat_map line_of_words (map inflow_words ps)) c.args.pieces.now c.loop-piece.piece-index c.loop-piece.out.items _
    c.loop-piece-test.false refl c.loop-piece.invariant
