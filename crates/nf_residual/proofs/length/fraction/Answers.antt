use Rattle.std.proofs.Common.{Option, unwrap_or, refl, sym, ap, ◌∙◌, is_some}
use Rattle.nf_residual.proofs.Common.{ℚ}
use Rattle.nf_residual.proofs.WholeLengths.{made_is, widened}
use Rattle.nf_residual.proofs.length.fraction.Goals as goal

pub unwrap-requires : goal.unwrap-requires
unwrap-requires c = ap is_some (made_is c.make.result c.args.number _ _ c.requires (widened c.args.number c.ranges.number c.requires) refl c.make.ensures)

pub returns : goal.returns
returns c =
    ap (λ (o : Option ℚ). unwrap_or o c.unwrap.result)
    (sym c.unwrap.ensures ∙ made_is c.make.result c.args.number _ _ c.requires (widened c.args.number c.ranges.number c.requires) refl c.make.ensures)
