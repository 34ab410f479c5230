use Rattle.nf_frac.proofs.Common.{short}
use Rattle.nf_frac.proofs.SmallParts.{short_parts, short_num, short_form, short_value, own_short}
use Rattle.nf_frac.proofs.Turned.{inverse_num, inverse_den, inv_within}
use Rattle.nf_frac.proofs.small.Small.inverted.Goals as goal

pub invariant_of-result : goal.invariant_of-result
invariant_of-result c =
    let e = short_num c.self.invariant c.self.view_is in
    short_form _ _ _ (inverse_num c.args.self _ _ _ c.requires e (short_parts c.self.invariant c.self.view_is).den c.signed_short.ensures)
    (inverse_den c.args.self _ _ c.requires e c.unsigned_abs.ensures.value)
    (inv_within short c.args.self c.requires (own_short c.self.invariant c.self.view_is))

pub returns : goal.returns
returns c =
    let e = short_num c.self.invariant c.self.view_is in
    short_value _ _ _ (inverse_num c.args.self _ _ _ c.requires e (short_parts c.self.invariant c.self.view_is).den c.signed_short.ensures)
    (inverse_den c.args.self _ _ c.requires e c.unsigned_abs.ensures.value)
    (inv_within short c.args.self c.requires (own_short c.self.invariant c.self.view_is))
