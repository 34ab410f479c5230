use Rattle.std.proofs.Common.{rules, ℕ, replicate, Option, None, ap, ◌∙◌}
use Rattle.nf_complete_read.proofs.Common.{ℚ}
use Rattle.nf_complete_read.proofs.Nothing.{nothing_given}
use Rattle.nf_complete_read.proofs.draft.DraftSideDraft.new.Goals as goal

pub returns-clause-empty : goal.returns-clause-empty
returns-clause-empty c =
    nothing_given c.args.net.now c.in_ok-vec.field-0.items c.in_ok-vec-2.field-0.items c.recall.ensures
    (c.in_ok-vec.ensures.items_if_clones_equal (λ y e. search rules) ∙ ap (λ (k : ℕ). replicate {A = Option ℚ} k None) c.link_count.ensures)
    (c.in_ok-vec-2.ensures.items_if_clones_equal (λ y e. search rules) ∙ ap (λ (k : ℕ). replicate {A = Option ℚ} k None) c.node_count.ensures)
