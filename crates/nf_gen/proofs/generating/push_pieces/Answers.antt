use Rattle.std.proofs.Common.{ℕ, ◌+◌, ap}
use Rattle.nf_gen.proofs.Written.{pieces_written}
use Rattle.nf_gen.proofs.generating.push_pieces.Goals as goal

pub returns : goal.returns
returns c =
    pieces_written c.args.draws.now c.draw-first.new.self (1 + c.draw-first.result) (1 + c.draw-second.result)
    c.args.out.now.items c.push_piece_line.new.out.items c.push_piece_line-2.new.out.items c.push_piece_line-3.new.out.items
    c.draw-first.ensures.value (ap (λ (k : ℕ). 1 + k) c.draw-first.ensures.drawn) (ap (λ (k : ℕ). 1 + k) c.draw-second.ensures.drawn)
    c.in_ok-push_piece_line.ensures c.in_ok-push_piece_line-2.ensures c.in_ok-push_piece_line-3.ensures
