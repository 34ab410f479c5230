use Rattle.std.proofs.Common.{drop, ◌+◌, sym, ◌∙◌, ap}
use Rattle.nf_net_file.proofs.Common.{le_ℚ, Piece, rate_from}
use Rattle.nf_net_file.proofs.Rates.{rate_goes_on, rate_stays}
use Rattle.nf_net_file.proofs.pieces.rate_of.Goals as goal

pub loop-piece-preserved : goal.loop-piece-preserved
loop-piece-preserved c =
    ap (λ (p : Piece). rate_from p.rate (drop (c.loop-piece.piece-index + 1) c.args.pieces.now) c.args.time) c.piece.view_is
    ∙ sym (rate_goes_on c.args.pieces.now c.args.time c.loop-piece.piece-index c.piece-item.result c.loop-piece-test.true c.piece-item.is c.loop-piece.rate
    (ap (λ (p : Piece). le_ℚ p.start c.args.time) (sym c.piece.view_is) ∙ sym c.is_at_most.ensures ∙ c.if-not-is_at_most.false))
    ∙ c.loop-piece.invariant

pub returns-then-not-is_at_most : goal.returns-then-not-is_at_most
returns-then-not-is_at_most c =
    sym (rate_stays c.args.pieces.now c.args.time c.loop-piece.piece-index c.piece-item.result c.loop-piece-test.true c.piece-item.is c.loop-piece.rate
    (ap (λ (p : Piece). le_ℚ p.start c.args.time) (sym c.piece.view_is) ∙ sym c.is_at_most.ensures ∙ c.if-not-is_at_most.true))
    ∙ c.loop-piece.invariant
