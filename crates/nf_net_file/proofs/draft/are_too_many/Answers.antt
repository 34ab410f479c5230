use Rattle.std.proofs.Common.{ℕ, ◌+◌, sym, ap, ◌∙◌}
use Rattle.nf_net_file.proofs.NodeCounts.{too_many}
use Rattle.nf_net_file.proofs.draft.are_too_many.Goals as goal

pub returns : goal.returns
returns c =
    too_many c.len.result c.new_names-more.result _ c.new_names-more.ensures.small
    (c.new_names-more.ensures.count ∙ ap (λ (n : ℕ). n + c.new_names-more.result) (sym c.len.ensures))
