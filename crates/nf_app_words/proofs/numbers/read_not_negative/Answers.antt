use Rattle.std.proofs.Common.{rules}
use Rattle.nf_frac.proofs.Comparisons.{le_by_order}
use Rattle.nf_app_words.proofs.numbers.read_not_negative.Goals as goal

pub returns-in-Ok : goal.returns-in-Ok
returns-in-Ok c = search (le_by_order, rules)
