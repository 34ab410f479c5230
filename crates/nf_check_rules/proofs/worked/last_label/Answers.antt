use Rattle.std.proofs.Common.{ap, ◌∙◌}
use Rattle.nf_check_rules.proofs.Common.{last_value}
use Rattle.nf_check_rules.proofs.worked.last_label.Goals as goal

pub returns-clause-value : goal.returns-clause-value
returns-clause-value c = c.last_value.ensures.value ∙ ap last_value c.label_at.ensures.points

pub returns-clause-nonnegative : goal.returns-clause-nonnegative
returns-clause-nonnegative c = c.last_value.ensures.nonnegative c.label_at.ensures.from_zero.none_negative
