use Rattle.std.proofs.Common.{sym, ◌∙◌, arith}
use Rattle.nf_curve.proofs.Common.{passes_Q}
use Rattle.nf_curve.proofs.Pieces.{run_apart}
use Rattle.nf_curve.proofs.lines.slope.Goals as goal

pub quotient-requires : goal.quotient-requires
quotient-requires c = (omega arith, run_apart passes_Q c.args.p.now.0 c.args.q.now.0 _ c.requires (sym c.difference-2.ensures ∙ c.in-Ok-at-run.is))
