use Rattle.std.proofs.Common.{sym, ap, ◌∙◌, refl}
use Rattle.nf_residual.proofs.Common.{measured}
use Rattle.nf_residual.proofs.WholeLengths.{order_kept}
use Rattle.nf_residual.proofs.length.Length.compare_whole.Goals as goal

pub returns-in-Whole : goal.returns-in-Whole
returns-in-Whole c = c.cmp.ensures ∙ order_kept c.args.number c.in-Whole.right _ c.args.other.now c.requires refl (sym (ap measured c.in-Whole.is) ∙ c.other.view_is)
