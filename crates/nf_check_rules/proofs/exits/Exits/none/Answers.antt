use Rattle.std.proofs.Common.{◌≡◌, ℕ, List, [], ◌∷◌, ◌++◌, length, replicate, Option, None, ap, ◌∙◌, arith}
use Rattle.nf_check_rules.proofs.Common.{replicate_more, IfOk-from_err, Grown}
use Rattle.nf_check_rules.proofs.exits.Exits.none.Goals as goal

pub returns-in_err-kept : goal.returns-in_err-kept
returns-in_err-kept c = IfOk-from_err c.from_residual.result _ c.from_residual.ensures.0

pub loop-init : goal.loop-init
loop-init c = c.in_ok-kept.ensures.items

pub returns-in_err-push : goal.returns-in_err-push
returns-in_err-push c = IfOk-from_err c.from_residual-in_err-push.result _ c.from_residual-in_err-push.ensures.0

pub loop-preserved : goal.loop-preserved
loop-preserved c = c.in_ok-push.ensures.items ∙ ap (λ (l : List (Option Grown)). l ++ None ∷ []) c.loop.invariant ∙ replicate_more c.loop.counter None

pub returns : goal.returns
returns c =
    let all : c.loop.counter ≡ length c.args.net.now.net.links = omega arith in
    c.loop.invariant ∙ ap (λ (n : ℕ). replicate {A = Option Grown} n None) all
