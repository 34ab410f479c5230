use Rattle.std.proofs.Common.{sym, ◌∙◌}
use Rattle.nf_thin_balance.proofs.Common.{true≢false}
use Rattle.nf_thin_balance.proofs.node_test.first_failing.Goals as goal

pub returns-then-not-is_balanced : goal.returns-then-not-is_balanced
returns-then-not-is_balanced c flow are conserves = absurd (true≢false (sym (c.is_balanced.ensures flow are conserves) ∙ c.if-not-is_balanced.true))
