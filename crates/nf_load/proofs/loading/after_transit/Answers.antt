use Rattle.std.proofs.Common.{sym, ap, ◌∙◌, rules}
use Rattle.nf_load.proofs.Common.{Load, at_part}
use Rattle.nf_load.proofs.loading.after_transit.Goals as goal

pub returns-2 : goal.returns-2
returns-2 c = ap (at_part Load) (sym c.in-Ok-at.is ∙ c.sum.ensures)

pub returns : goal.returns
returns c = search rules
