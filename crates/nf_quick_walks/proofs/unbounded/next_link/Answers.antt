use Rattle.std.proofs.Common.{sym, ◌∙◌}
use Rattle.nf_quick_walks.proofs.unbounded.next_link.Goals as goal

pub returns-then-leads_on : goal.returns-then-leads_on
returns-then-leads_on c = record { link = c.link.result; is_link = c.link.ensures.link; leads = sym c.leads_on.ensures ∙ c.if-leads_on.true }
