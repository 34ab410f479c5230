use Rattle.std.proofs.Common.{sym, arith}
use Rattle.nf_curve.proofs.Common.{passes_Q, checked_slope}
use Rattle.nf_curve.proofs.Exits.{was_ok}
use Rattle.nf_curve.proofs.Pieces.{slope_apart}
use Rattle.nf_curve.proofs.lines.inverse.Goals as goal

pub quotient-requires : goal.quotient-requires
quotient-requires c = (
  omega arith,
  slope_apart passes_Q c.args.p.now c.args.q.now c.in_ok-slope.slope c.requires.later c.requires.apart
      (was_ok c.args.part (checked_slope passes_Q c.args.p.now c.args.q.now) c.in_ok-slope.slope (sym c.in_ok-slope.ensures)),
)
