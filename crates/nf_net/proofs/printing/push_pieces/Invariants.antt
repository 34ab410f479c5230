use Rattle.std.proofs.Common.{◌≡◌, ◌++◌, drop, map}
use Rattle.nf_net.proofs.Common.{flat_map, line_of_words, inflow_words}
use Rattle.nf_net.proofs.printing.push_pieces.Given as goal

abbrev pub invariant-loop-piece : goal.invariant-loop-piece
invariant-loop-piece l =
    l.out.items ++ flat_map line_of_words (map inflow_words (drop l.piece-index l.pieces)) ≡ l.initial.out.items ++ flat_map line_of_words
    (map inflow_words l.pieces)
