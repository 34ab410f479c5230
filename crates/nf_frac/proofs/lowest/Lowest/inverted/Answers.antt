use Rattle.nf_frac.proofs.Common.{greatest}
use Rattle.nf_frac.proofs.Form.{parts_of, num_plain, form_of, value_of, own_within}
use Rattle.nf_frac.proofs.Turned.{inverse_num, inverse_den, inv_within}
use Rattle.nf_frac.proofs.lowest.Lowest.inverted.Goals as goal

pub invariant_of-result : goal.invariant_of-result
invariant_of-result c =
    let e = num_plain c.self.invariant c.self.view_is in
    form_of _ _ _ (inverse_num c.args.self _ _ _ c.requires e (parts_of c.self.invariant c.self.view_is).den c.with_sign.ensures)
    (inverse_den c.args.self _ _ c.requires e c.unsigned_abs.ensures.value)
    (inv_within greatest c.args.self c.requires (own_within c.self.invariant c.self.view_is))

pub returns : goal.returns
returns c =
    let e = num_plain c.self.invariant c.self.view_is in
    value_of _ _ _ (inverse_num c.args.self _ _ _ c.requires e (parts_of c.self.invariant c.self.view_is).den c.with_sign.ensures)
    (inverse_den c.args.self _ _ c.requires e c.unsigned_abs.ensures.value)
    (inv_within greatest c.args.self c.requires (own_within c.self.invariant c.self.view_is))
