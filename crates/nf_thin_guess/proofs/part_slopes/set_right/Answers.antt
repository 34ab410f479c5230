use Rattle.std.proofs.Common.{refl, length, ap, ◌∙◌}
use Rattle.nf_thin_guess.proofs.Common.{length-set}
use Rattle.nf_thin_guess.proofs.part_slopes.set_right.Goals as goal

pub returns : goal.returns
returns c = refl

pub returns-2 : goal.returns-2
returns-2 c = ap (λ rows. length rows) c.set_right.ensures ∙ length-set c.args.table.now c.args.row _
