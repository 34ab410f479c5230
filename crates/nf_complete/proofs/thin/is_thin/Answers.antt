use Rattle.std.proofs.Common.{Bool, ◌&&◌, sym, ap, subst, ◌∙◌, MatchBool}
use Rattle.nf_complete.proofs.Common.{IfOk-from_err, err_from_is_err_and, passes_Q, IsThinFlow}
use Rattle.nf_complete.proofs.GoodSets.{good_sets}
use Rattle.nf_complete.proofs.ThinAnswers.{balances_pass, slopes_pass, none_passes, thin_told}
use Rattle.nf_complete.proofs.thin.is_thin.Goals as goal

pub is_proper-proper-requires-clause-sets : goal.is_proper-proper-requires-clause-sets
is_proper-proper-requires-clause-sets c = c.requires.sets.sets_are.count

pub is_proper-proper-requires-clause-flows : goal.is_proper-proper-requires-clause-flows
is_proper-proper-requires-clause-flows c = c.requires.flows

pub is_proper-proper-requires-clause-slopes : goal.is_proper-proper-requires-clause-slopes
is_proper-proper-requires-clause-slopes c = c.requires.slopes

pub keep_slopes-requires-clause-sets : goal.keep_slopes-requires-clause-sets
keep_slopes-requires-clause-sets c = c.requires.sets.sets_are.count

pub keep_slopes-requires-clause-flows : goal.keep_slopes-requires-clause-flows
keep_slopes-requires-clause-flows c = c.requires.flows

pub keep_slopes-requires-clause-slopes : goal.keep_slopes-requires-clause-slopes
keep_slopes-requires-clause-slopes c = c.requires.slopes

pub returns-in_err-balanced-clause-thin : goal.returns-in_err-balanced-clause-thin
returns-in_err-balanced-clause-thin c = IfOk-from_err c.from_residual.result _ c.from_residual.ensures.0

pub returns-in_err-kept-clause-thin : goal.returns-in_err-kept-clause-thin
returns-in_err-kept-clause-thin c = IfOk-from_err c.from_residual-in_err-kept.result _ c.from_residual-in_err-kept.ensures.0

pub returns-in_err-balanced-clause-list : goal.returns-in_err-balanced-clause-list
returns-in_err-balanced-clause-list c =
    let p = err_from_is_err_and c.from_residual.result c.from_residual.ensures.1 in
    rw (p.1, p.2) (balances_pass passes_Q c.args.net.now.net c.args.sets.now c.args.rate c.args.flows.now c.args.slopes.now
    (good_sets c.args.net.now c.args.sets.now c.recall.ensures c.requires.sets) c.requires.source c.requires.flows c.requires.slopes
    c.in_err-balanced.field-0.0 c.in_err-balanced.ensures)

pub returns-in_err-kept-clause-list : goal.returns-in_err-kept-clause-list
returns-in_err-kept-clause-list c =
    let p = err_from_is_err_and c.from_residual-in_err-kept.result c.from_residual-in_err-kept.ensures.1 in
    rw (p.1, p.2) (slopes_pass passes_Q c.args.net.now.net c.args.sets.now c.args.rate c.args.flows.now c.args.slopes.now
    (good_sets c.args.net.now c.args.sets.now c.recall.ensures c.requires.sets) c.requires.source c.requires.flows c.requires.slopes
    c.in_ok-balanced.balanced c.in_ok-balanced.ensures c.in_err-kept.field-0.0 c.in_err-kept.ensures)

pub returns-clause-list : goal.returns-clause-list
returns-clause-list c =
    none_passes passes_Q c.args.net.now.net c.args.sets.now c.args.rate c.args.flows.now c.args.slopes.now
    (good_sets c.args.net.now c.args.sets.now c.recall.ensures c.requires.sets) c.requires.source c.requires.flows c.requires.slopes
    c.in_ok-balanced.balanced c.in_ok-balanced.ensures c.in_ok-kept.kept c.in_ok-kept.ensures

pub returns-clause-thin : goal.returns-clause-thin
returns-clause-thin c = subst
    (λ (b : Bool). MatchBool b (IsThinFlow c.args.net.now.net c.args.sets.now c.args.rate c.args.flows.now c.args.slopes.now)
    (IsThinFlow c.args.net.now.net c.args.sets.now c.args.rate c.args.flows.now c.args.slopes.now → ⊥))
    (sym (c.both-thin.ensures ∙ ap (λ (b : Bool). b && c.is_proper-proper.result) c.both-tested.ensures))
    (thin_told passes_Q c.args.net.now.net c.args.sets.now c.args.rate c.args.flows.now c.args.slopes.now
    (good_sets c.args.net.now c.args.sets.now c.recall.ensures c.requires.sets) c.requires.source c.requires.flows c.requires.slopes
    c.in_ok-balanced.balanced c.in_ok-balanced.ensures c.in_ok-kept.kept c.in_ok-kept.ensures c.is_proper-proper.result c.is_proper-proper.ensures)
