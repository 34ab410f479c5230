use Rattle.std.proofs.Common.{sym, ap, ◌∙◌, Result, Ok, Err}
use Rattle.nf_curve.proofs.Common.{ℚ, Sum, Passed, passes_Q, at_part, checked, ◌>>=◌, sides_at, sides_of}
use Rattle.nf_curve.proofs.Exits.{after_ok}
use Rattle.nf_curve.proofs.sums.sum_at.Goals as goal

pub returns-clause-point : goal.returns-clause-point
returns-clause-point c =
    let time = c.args.now.now.time in
    let s = after_ok c.args.part (sides_at passes_Q c.args.left.now c.args.right.now time)
    (λ sides. checked passes_Q Sum sides.left sides.right >>= λ y. Ok (time, y)) (sides_of c.in_ok-sides.sides) (sym c.in_ok-sides.ensures.list) in
    ap Err c.at-from.ensures ∙ sym (s ∙ ap (λ (r : Result ℚ (Passed ℚ)). at_part c.args.part (r >>= λ y. Ok (time, y))) (sym c.sum.ensures ∙ c.in-Err-at.is))

pub returns-2-clause-point : goal.returns-2-clause-point
returns-2-clause-point c =
    let time = c.args.now.now.time in
    let s = after_ok c.args.part (sides_at passes_Q c.args.left.now c.args.right.now time)
    (λ sides. checked passes_Q Sum sides.left sides.right >>= λ y. Ok (time, y)) (sides_of c.in_ok-sides.sides) (sym c.in_ok-sides.ensures.list) in
    sym (s ∙ ap (λ (r : Result ℚ (Passed ℚ)). at_part c.args.part (r >>= λ y. Ok (time, y))) (sym c.sum.ensures ∙ c.in-Ok-at.is))
