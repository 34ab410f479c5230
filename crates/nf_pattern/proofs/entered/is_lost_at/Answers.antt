use Rattle.std.proofs.Common.{sym, ◌∙◌}
use Rattle.nf_pattern.proofs.Tests.{is_lost_told}
use Rattle.nf_pattern.proofs.entered.is_lost_at.Goals as goal

pub returns-then-ne : goal.returns-then-ne
returns-then-ne c = is_lost_told c.args.ends.now c.args.source c.args.node c.requires.node (sym c.if-ne.true ∙ c.ne.ensures)
