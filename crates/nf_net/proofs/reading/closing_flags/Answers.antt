use Rattle.nf_net.proofs.Common.{seen_draft, good_of}
use Rattle.nf_net.proofs.reading.closing_flags.Goals as goal

pub hops_of-requires : goal.hops_of-requires
hops_of-requires c = (good_of (seen_draft c.args.draft.now) c.requires).few_nodes
