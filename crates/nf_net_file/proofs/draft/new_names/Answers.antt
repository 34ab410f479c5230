use Rattle.nf_net_file.proofs.NodeCounts.{length_with_two}
use Rattle.nf_net_file.proofs.draft.new_names.Goals as goal

pub returns-clause-count : goal.returns-clause-count
returns-clause-count c =
    rw (c.count_new.ensures, c.count_new-2.ensures, c.has.ensures, c.is_known.ensures) (length_with_two c.args.nodes.now c.args.first.now c.args.second.now)
