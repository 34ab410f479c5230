use Rattle.std.proofs.Common.{sym, ap, ◌∙◌}
use Rattle.nf_thin_one.proofs.Common.{Link}
use Rattle.nf_thin_one.proofs.Held.{capacity_held, no_capacity_held}
use Rattle.nf_thin_one.proofs.small_numbers.has_small_capacity.Goals as goal

pub returns-in-Some : goal.returns-in-Some
returns-in-Some c = λ yes. capacity_held c.args.link c.in-Some.capacity (ap (λ (l : Link). l.capacity) (sym c.link.view_is) ∙ c.in-Some.is) (c.is_small.ensures yes)

pub returns-in-None : goal.returns-in-None
returns-in-None c = λ yes. no_capacity_held c.args.link (ap (λ (l : Link). l.capacity) (sym c.link.view_is) ∙ c.in-None.is)
