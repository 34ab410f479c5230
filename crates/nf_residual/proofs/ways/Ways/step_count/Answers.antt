use Rattle.std.proofs.Common.{ap}
use Rattle.nf_residual.proofs.Common.{Twig}
use Rattle.nf_residual.proofs.Reading.{twig_read}
use Rattle.nf_residual.proofs.ways.Ways.step_count.Goals as goal

pub returns-clause-value : goal.returns-clause-value
returns-clause-value c = ap (λ (t : Twig). t.count) (twig_read c.self.inside.twigs.items c.args.self.now c.args.way c.index.result.now c.self.view_is c.requires c.index.ensures)
