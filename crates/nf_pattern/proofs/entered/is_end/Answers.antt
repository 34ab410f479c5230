use Rattle.nf_pattern.proofs.Tests.{is_end_told}
use Rattle.nf_pattern.proofs.entered.is_end.Goals as goal

pub returns : goal.returns
returns c = is_end_told c.args.ends.now c.args.node c.args.link c.index.result c.index-2.result c.requires c.index.ensures c.index-2.ensures
