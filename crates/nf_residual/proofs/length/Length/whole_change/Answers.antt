use Rattle.std.proofs.Common.{sym, ap, subst, ◌∙◌}
use Rattle.nf_residual.proofs.Common.{measured, IsHeldWhole}
use Rattle.nf_residual.proofs.WholeLengths.{whole_given}
use Rattle.nf_residual.proofs.length.Length.whole_change.Goals as goal

pub returns-in-Whole-form : goal.returns-in-Whole-form
returns-in-Whole-form c = whole_given c.args.forward c.args.self.now c.args.transit.now c.in-Whole.number c.in-Whole-form.change
    (subst IsHeldWhole c.in-Whole.is c.self.invariant) (subst IsHeldWhole c.in-Whole-form.is c.transit.invariant)
    (sym (ap measured c.in-Whole.is) ∙ c.self.view_is) (sym (ap measured c.in-Whole-form.is) ∙ c.transit.view_is) c.along.result c.along.ensures
