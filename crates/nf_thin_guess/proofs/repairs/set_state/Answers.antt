use Rattle.std.proofs.Common.{subst, sym}
use Rattle.nf_thin_guess.proofs.Common.{Pattern, IsPatternIn}
use Rattle.nf_thin_guess.proofs.repairs.set_state.Goals as goal

pub returns-then-may_have : goal.returns-then-may_have
returns-then-may_have c = λ sets is. subst (λ (p : Pattern). IsPatternIn c.args.net.now.net sets p) (sym c.set.ensures) (c.may_have.ensures c.if-may_have.true sets is)

pub returns-else-may_have : goal.returns-else-may_have
returns-else-may_have c = λ sets is. is
