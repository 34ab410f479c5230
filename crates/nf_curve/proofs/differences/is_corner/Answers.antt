use Rattle.std.proofs.Common.{arith}
use Rattle.nf_curve.proofs.Placing.{place_within}
use Rattle.nf_curve.proofs.differences.is_corner.Goals as goal

pub does_turn-requires-clause-within : goal.does_turn-requires-clause-within
does_turn-requires-clause-within c = let k = place_within c.args.now.now.time c.args.left.now in let e = c.requires.there.left_place in omega arith

pub does_turn-requires-2-clause-within : goal.does_turn-requires-2-clause-within
does_turn-requires-2-clause-within c = let k = place_within c.args.now.now.time c.args.right.now in let e = c.requires.there.right_place in omega arith
