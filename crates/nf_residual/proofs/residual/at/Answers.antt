use Rattle.std.proofs.Common.{refl}
use Rattle.nf_residual.proofs.Reading.{number_read}
use Rattle.nf_residual.proofs.residual.at.Goals as goal

pub returns : goal.returns
returns c = number_read c.args.flows.now.items c.args.flows.now.items c.index.result c.args.link c.index-2.result.now refl c.index.ensures c.requires c.index-2.ensures
