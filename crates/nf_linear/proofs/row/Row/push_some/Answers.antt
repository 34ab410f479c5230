use Rattle.nf_linear.proofs.Taken.{entry_pushed}
use Rattle.nf_linear.proofs.row.Row.push_some.Goals as goal

pub returns-clause-value : goal.returns-clause-value
returns-clause-value g c =
    entry_pushed g.C.Number.Scalar.means c.args.entries.now c.args.count c.args.column c.at.result _ c.is_zero_at.result c.requires.room c.at.ensures
    c.is_zero_at.ensures c.if-is_zero_at.false
