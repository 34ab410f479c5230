use Rattle.std.proofs.Common.{ap, ◌∙◌}
use Rattle.nf_residual.proofs.Common.{cmp_ℚ, Twig}
use Rattle.nf_residual.proofs.Reading.{twig_read}
use Rattle.nf_residual.proofs.ways.Ways.compare.Goals as goal

pub returns : goal.returns
returns c =
    c.compare.ensures ∙ ap (λ (t : Twig). cmp_ℚ c.args.distance.now t.distance)
    (twig_read c.self.inside.twigs.items c.args.self.now c.args.way c.index.result.now c.self.view_is c.requires c.index.ensures)
