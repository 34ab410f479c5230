use Rattle.std.proofs.Common.{ℤ, pos, sym, ap, ◌∙◌}
use Rattle.nf_residual.proofs.Common.{plain}
use lib.Signed.{lt_z}
use Rattle.nf_residual.proofs.Signs.{above_zero}
use Rattle.nf_residual.proofs.step.is_some.Goals as goal

pub returns : goal.returns
returns c = ap (λ (z : ℤ). lt_z (pos 0) z) (plain c.numer.result c.numer.ensures.small ∙ c.numer.ensures.value) ∙ sym (above_zero c.args.flow.now)
