use Rattle.std.proofs.Common.{ap, ◌∙◌}
use Rattle.nf_complete_conditions.proofs.Common.{ℚ, number_at, Link, same_test}
use Rattle.nf_complete_conditions.proofs.LinkAnswers.{level_told}
use Rattle.nf_complete_conditions.proofs.leading.is_level.Goals as goal

pub returns : goal.returns
returns c = level_told c.args.net.now.net c.args.slopes.now c.args.link c.link-here.result c.is_same.result c.link-here.ensures.link
    (c.is_same.ensures
    ∙ ap (λ (x : ℚ). same_test x c.slope_of-2.result) (c.slope_of.ensures ∙ ap (λ (k : Link). number_at c.args.slopes.now k.head) c.here.view_is)
    ∙ ap (λ (y : ℚ). same_test (number_at c.args.slopes.now c.link-here.result.head) y) (c.slope_of-2.ensures ∙ ap (λ (k : Link). number_at c.args.slopes.now k.tail) c.here.view_is))
