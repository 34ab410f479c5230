use Rattle.std.proofs.Common.{sym, ◌∙◌}
use Rattle.nf_thin_balance.proofs.Common.{true≢false}
use Rattle.nf_thin_balance.proofs.ranges.Range.meets.Goals as goal

pub returns-then-not-ends_meet : goal.returns-then-not-ends_meet
returns-then-not-ends_meet c x here there = absurd (true≢false (sym (c.ends_meet.ensures x here.from there.up_to) ∙ c.if-not-ends_meet.true))

pub returns : goal.returns
returns c x here there = c.ends_meet-2.ensures x there.from here.up_to
