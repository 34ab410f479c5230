use Rattle.std.proofs.Common.{sym, ◌∙◌}
use Rattle.nf_frac.proofs.Common.{greatest}
use Rattle.nf_frac.proofs.Form.{parts_of, num_plain, form_of, value_of, own_within}
use Rattle.nf_frac.proofs.Turned.{minus_is, den-neg, neg_within}
use Rattle.nf_frac.proofs.lowest.Lowest.negated.Goals as goal

pub returns : goal.returns
returns c =
    value_of _ _ _ (minus_is c.args.self _ (num_plain c.self.invariant c.self.view_is)) (sym (parts_of c.self.invariant c.self.view_is).den ∙ sym (den-neg c.args.self))
    (neg_within greatest c.args.self (own_within c.self.invariant c.self.view_is))

pub invariant_of-result : goal.invariant_of-result
invariant_of-result c =
    form_of _ _ _ (minus_is c.args.self _ (num_plain c.self.invariant c.self.view_is)) (sym (parts_of c.self.invariant c.self.view_is).den ∙ sym (den-neg c.args.self))
    (neg_within greatest c.args.self (own_within c.self.invariant c.self.view_is))
