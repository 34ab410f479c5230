use Rattle.std.proofs.Common.{length, ap, ◌∙◌}
use Rattle.nf_thin_guess.proofs.Common.{length-set}
use Rattle.nf_thin_guess.proofs.part_slopes.set_number.Goals as goal

pub returns : goal.returns
returns c = ap (λ rows. length rows) c.set.ensures ∙ (length-set c.args.table.now c.args.row _ ∙ c.requires)
