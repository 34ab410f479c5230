use Rattle.std.proofs.Common.{ap, ◌∙◌}
use Rattle.nf_residual.proofs.Common.{Twig}
use Rattle.nf_residual.proofs.Reading.{twig_read}
use Rattle.nf_residual.proofs.ways.Ways.distance.Goals as goal

pub returns : goal.returns
returns c = c.value.ensures ∙ ap (λ (t : Twig). t.distance) (twig_read c.self.inside.twigs.items c.args.self.now c.args.way c.index.result.now c.self.view_is c.requires c.index.ensures)
