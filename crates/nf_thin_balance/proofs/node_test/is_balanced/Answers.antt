use Rattle.std.proofs.Common.{sym, subst}
use Rattle.nf_thin_balance.proofs.Common.{IsInRange, surplus_by}
use Rattle.nf_thin_balance.proofs.node_test.is_balanced.Goals as goal

pub returns : goal.returns
returns c flow within conserved = c.meets.ensures (surplus_by c.args.net.now.net flow c.args.node) (within c.args.node c.surplus_at.result c.surplus_at.ensures)
    (subst (IsInRange c.needed.result) (sym (conserved.2 c.args.node c.requires.node)) (c.needed.ensures conserved.0 conserved.1))
