use Rattle.nf_residual.proofs.Reading.{number_read}
use Rattle.nf_residual.proofs.residual.Residual.flow.Goals as goal

pub returns : goal.returns
returns c = number_read c.self.inside.flows.items c.args.self.now c.index.result c.args.link c.index-2.result.now c.self.view_is c.index.ensures c.requires c.index-2.ensures
