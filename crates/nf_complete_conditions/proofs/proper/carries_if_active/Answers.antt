use Rattle.std.proofs.Common.{ap, ◌∙◌}
use Rattle.nf_complete_conditions.proofs.Common.{ℚ, number_at, same_test}
use Rattle.nf_complete_conditions.proofs.Deciding.{not_set_by}
use Rattle.nf_complete_conditions.proofs.LinkAnswers.{carries_told}
use Rattle.nf_complete_conditions.proofs.proper.carries_if_active.Goals as goal

pub returns : goal.returns
returns c =
    carries_told c.args.sets.now c.args.flows.now c.args.link c.is_same.result
    (not_set_by c.args.sets.now.active c.args.link c.active.result c.active.ensures.flag c.if-active.false)
    (c.is_same.ensures ∙ ap (λ (x : ℚ). same_test x c.zero.result) c.flow_of.ensures ∙ ap (λ (y : ℚ). same_test (number_at c.args.flows.now c.args.link) y) c.zero.ensures)
