use Rattle.std.proofs.Common.{ap, ◌∙◌}
use Rattle.nf_residual.proofs.Common.{twig_at, Twig}
use Rattle.nf_residual.proofs.Reading.{twig_read}
use Rattle.nf_residual.proofs.WholeLengths.{order_handed}
use Rattle.nf_residual.proofs.ways.Ways.compare_whole.Goals as goal

pub returns : goal.returns
returns c = c.compare_whole.ensures ∙ order_handed c.args.number c.index.result.now.distance (twig_at c.args.self.now c.args.way).distance c.requires.number
    (ap (λ (t : Twig). t.distance) (twig_read c.self.inside.twigs.items c.args.self.now c.args.way c.index.result.now c.self.view_is c.requires.way c.index.ensures))
