use Rattle.std.proofs.Common.{◌≡◌, ℕ, ◌+◌, List, [], ◌∷◌, ◌++◌, replicate, ap, sym, subst, ◌∙◌, add-one, arith}
use Rattle.nf_linear.proofs.Common.{IfOk-from_err, ℚ, 0ℚ, IsSquare}
use Rattle.nf_linear.proofs.Written.{zero_square}
use Rattle.nf_linear.proofs.Taken.{replicate_more}
use Rattle.nf_linear.proofs.table.Table.new.Goals as goal

pub loop-init : goal.loop-init
loop-init g c = c.in_ok-rows.ensures.items

pub loop-preserved : goal.loop-preserved
loop-preserved g c =
    c.in_ok-push.ensures.items
    ∙ ap (λ (row : List ℚ). c.loop.rows.items ++ row ∷ []) (c.of.ensures ∙ c.in_ok-cells.ensures)
    ∙ ap (λ (rows : List (List ℚ)). rows ++ replicate (c.args.size + 1) 0ℚ ∷ []) c.loop.invariant
    ∙ replicate_more c.loop.counter (replicate (c.args.size + 1) 0ℚ)
    ∙ ap (λ (k : ℕ). replicate k (replicate (c.args.size + 1) 0ℚ)) (sym (add-one c.loop.counter))

pub returns-in_err-rows : goal.returns-in_err-rows
returns-in_err-rows g c = IfOk-from_err c.from_residual.result _ c.from_residual.ensures.0

pub returns-in_err-cells : goal.returns-in_err-cells
returns-in_err-cells g c = IfOk-from_err c.from_residual-in_err-cells.result _ c.from_residual-in_err-cells.ensures.0

pub returns-in_err-push : goal.returns-in_err-push
returns-in_err-push g c = IfOk-from_err c.from_residual-in_err-push.result _ c.from_residual-in_err-push.ensures.0

pub invariant_of-result : goal.invariant_of-result
invariant_of-result g c =
    let end : c.loop.counter ≡ c.args.size = omega arith in
    subst IsSquare (sym (c.loop.invariant ∙ ap (λ (k : ℕ). replicate k (replicate (c.args.size + 1) 0ℚ)) end)) (zero_square c.args.size)
