use Rattle.std.proofs.Common.{Some, sym, ◌∙◌, ap}
use Rattle.nf_net_file.proofs.Common.{lt_ℚ, Piece}
use Rattle.nf_net_file.proofs.Rates.{start_later, start_here}
use Rattle.nf_net_file.proofs.pieces.start_after.Goals as goal

pub loop-piece-preserved : goal.loop-piece-preserved
loop-piece-preserved c =
    sym (start_later c.args.pieces.now c.args.time c.loop-piece.piece-index c.piece-item.result c.loop-piece-test.true c.piece-item.is
    (ap (λ (p : Piece). lt_ℚ c.args.time p.start) (sym c.piece.view_is) ∙ sym c.is_below.ensures ∙ c.if-is_below.false))
    ∙ c.loop-piece.invariant

pub returns-then-is_below : goal.returns-then-is_below
returns-then-is_below c =
    ap (λ (p : Piece). Some p.start) c.piece.view_is
    ∙ sym (start_here c.args.pieces.now c.args.time c.loop-piece.piece-index c.piece-item.result c.loop-piece-test.true c.piece-item.is
    (ap (λ (p : Piece). lt_ℚ c.args.time p.start) (sym c.piece.view_is) ∙ sym c.is_below.ensures ∙ c.if-is_below.true))
    ∙ c.loop-piece.invariant
