use Rattle.std.proofs.Common.{Ok, sym, ap, ◌∙◌}
use Rattle.nf_thin_one.proofs.trying.solved.Goals as goal

pub returns : goal.returns
returns c = c.in_ok-found.ensures.list ∙ ap Ok (sym c.only_values.ensures)
