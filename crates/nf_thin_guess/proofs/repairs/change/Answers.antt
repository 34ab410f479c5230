use Rattle.std.proofs.Common.{subst, sym}
use Rattle.nf_thin_guess.proofs.Common.{Pattern, IsPatternIn}
use Rattle.nf_thin_guess.proofs.repairs.change.Goals as goal

pub returns-then-not-may_have : goal.returns-then-not-may_have
returns-then-not-may_have c = λ sets is. is

pub returns : goal.returns
returns c = λ sets is. subst (λ (p : Pattern). IsPatternIn c.args.net.now.net sets p) (sym c.set.ensures) (c.may_have.ensures c.if-not-may_have.false sets is)
