use Rattle.std.proofs.Common.{sym, ◌∙◌, subst}
use Rattle.nf_frac.proofs.Common.{ℚ, IsWithin, short}
use Rattle.nf_frac.proofs.SmallParts.{short_parts, short_num, short_form, short_value, own_short}
use Rattle.nf_frac.proofs.Turned.{minus_is, den-neg, neg_within}
use Rattle.nf_frac.proofs.small.Small.negated.Goals as goal

pub returns-clause-value : goal.returns-clause-value
returns-clause-value c =
    short_value _ _ _ (minus_is c.args.self _ (short_num c.self.invariant c.self.view_is)) (sym (short_parts c.self.invariant c.self.view_is).den ∙ sym (den-neg c.args.self))
    (neg_within short c.args.self (own_short c.self.invariant c.self.view_is))

pub returns-clause-small : goal.returns-clause-small
returns-clause-small c =
    let w = neg_within short c.args.self (own_short c.self.invariant c.self.view_is) in
    subst (λ (q : ℚ). IsWithin short q) (sym (returns-clause-value c)) w

pub invariant_of-result : goal.invariant_of-result
invariant_of-result c =
    short_form _ _ _ (minus_is c.args.self _ (short_num c.self.invariant c.self.view_is)) (sym (short_parts c.self.invariant c.self.view_is).den ∙ sym (den-neg c.args.self))
    (neg_within short c.args.self (own_short c.self.invariant c.self.view_is))
