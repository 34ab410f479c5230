use Rattle.std.proofs.Common.{arith}
use Rattle.nf_curve.proofs.Common.{passes_Q, sides_of}
use Rattle.nf_curve.proofs.Pieces.{change_apart}
use Rattle.nf_curve.proofs.lines.crossing_time.Goals as goal

pub quotient-requires : goal.quotient-requires
quotient-requires c = (
  omega arith,
  change_apart passes_Q (sides_of c.args.a.now) (sides_of c.args.b.now) _ _ _ c.difference.result c.difference-2.result c.difference-3.result c.requires
      c.in-Ok-at-change.is c.difference-3.ensures c.in-Ok-at.is c.difference.ensures c.in-Ok-at-after.is c.difference-2.ensures,
)
