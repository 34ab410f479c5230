use Rattle.std.proofs.Common.{length, ap, ◌∙◌}
use Rattle.nf_thin_guess.proofs.Common.{length-replicate}
use Rattle.nf_thin_guess.proofs.part_slopes.slope_table.Goals as goal

pub loop-i-init : goal.loop-i-init
loop-i-init c = ap (λ rows. length rows) c.in_ok-table.ensures ∙ length-replicate c.args.size _
