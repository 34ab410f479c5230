use Rattle.std.proofs.Common.{ap, ◌∙◌}
use Rattle.nf_complete_conditions.proofs.Common.{ℚ, 1ℚ, number_at, same_test}
use Rattle.nf_complete_conditions.proofs.Deciding.{says_by, Decides-same}
use Rattle.nf_complete_conditions.proofs.proper.starts.Goals as goal

pub returns : goal.returns
returns c = says_by c.is_same.result (same_test (number_at c.args.slopes.now c.args.net.now.net.source) 1ℚ)
    (c.is_same.ensures ∙ ap (λ (x : ℚ). same_test x c.one.result) (c.slope_of.ensures ∙ ap (number_at c.args.slopes.now) c.source.ensures.value)
    ∙ ap (λ (y : ℚ). same_test (number_at c.args.slopes.now c.args.net.now.net.source) y) c.one.ensures)
    (Decides-same (number_at c.args.slopes.now c.args.net.now.net.source) 1ℚ)
