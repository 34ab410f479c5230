use Rattle.std.proofs.Common.{refl}
use Rattle.nf_residual.proofs.Reading.{number_read}
use Rattle.nf_residual.proofs.flows.flow_at.Goals as goal

pub returns : goal.returns
returns c = number_read c.args.flows.now c.args.flows.now c.index.result c.args.link c.index-flows-index.result refl c.index.ensures c.requires c.index-flows-index.is
