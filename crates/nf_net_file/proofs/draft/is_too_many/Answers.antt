use Rattle.std.proofs.Common.{◌+◌, sym, ◌∙◌}
use Rattle.nf_net_file.proofs.Common.{one_unless}
use Rattle.nf_net_file.proofs.NodeCounts.{length_with_one, too_many_with_one}
use Rattle.nf_net_file.proofs.draft.is_too_many.Goals as goal

pub returns : goal.returns
returns c =
    too_many_with_one c.len.result c.count_new-more.result _ c.has.result c.count_new-more.ensures
    (length_with_one c.args.nodes.now c.args.name.now ∙ (λ i. sym c.len.ensures i + one_unless (sym c.has.ensures i)))
