use Rattle.std.proofs.Common.{lit<, sym, ◌∙◌}
use Rattle.nf_load.proofs.Common.{passes_Q}
use Rattle.nf_load.proofs.QueueSteps.{change_apart}
use Rattle.nf_load.proofs.waiting.drained.Goals as goal

pub quotient-requires : goal.quotient-requires
quotient-requires c = (lit< tt, change_apart passes_Q c.args.rate c.args.capacity c.in-Ok-at.field-0 c.requires (sym c.difference.ensures ∙ c.in-Ok-at.is))
