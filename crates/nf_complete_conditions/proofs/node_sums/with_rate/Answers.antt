use Rattle.std.proofs.Common.{rules}
use Rattle.nf_complete_conditions.proofs.node_sums.with_rate.Goals as goal

pub returns-then-stays : goal.returns-then-stays
returns-then-stays c = search rules
