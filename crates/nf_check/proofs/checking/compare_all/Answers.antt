use Rattle.std.proofs.Common.{◌∙◌, rules}
use Rattle.nf_check.proofs.Common.{err_from_is_err_and, in_view, arrivals_list, told_list, balances_list, goes_on, ends, ends_as, tries_as}
use Rattle.nf_check_rules.specs.Steps.{compared_list}
use Rattle.nf_check_rules.proofs.Keeping.{none_kept}
use Rattle.nf_check.proofs.checking.compare_all.Goals as goal

pub check_arrivals-requires : goal.check_arrivals-requires
check_arrivals-requires c = none_kept c.args.worked.now c.in_ok-exits.exits c.in_ok-exits.ensures

pub returns-in_err-check_arrivals : goal.returns-in_err-check_arrivals
unfolding compared_list
returns-in_err-check_arrivals c =
    let p = err_from_is_err_and c.from_residual-in_err-check_arrivals.result c.from_residual-in_err-check_arrivals.ensures.1 in
    rw (p.1, p.2) (ends c.in_err-check_arrivals.field-0.0 (in_view arrivals_list c.args.worked.now) _ c.in_err-check_arrivals.ensures.tries)

pub returns-in_err-check_told : goal.returns-in_err-check_told
unfolding compared_list
returns-in_err-check_told c =
    let p = err_from_is_err_and c.from_residual-in_err-check_told.result c.from_residual-in_err-check_told.ensures.1 in
    rw (p.1, p.2) (ends_as c.in_err-check_told.field-0.0 (in_view compared_list c.args.worked.now) _
    (goes_on (in_view arrivals_list c.args.worked.now) _ tt c.in_ok-check_arrivals.ensures.tries)
    (ends c.in_err-check_told.field-0.0 (in_view told_list c.args.worked.now) _ c.in_err-check_told.ensures))

pub returns-in_err-check_balances : goal.returns-in_err-check_balances
unfolding compared_list
returns-in_err-check_balances c =
    let p = err_from_is_err_and c.from_residual-in_err-check_balances.result c.from_residual-in_err-check_balances.ensures.1 in
    rw (p.1, p.2) (ends_as c.in_err-check_balances.field-0.0 (in_view compared_list c.args.worked.now) _
    (goes_on (in_view arrivals_list c.args.worked.now) _ tt (search rules)
    ∙ goes_on (in_view told_list c.args.worked.now) _ tt (search rules))
    (ends c.in_err-check_balances.field-0.0 (in_view balances_list c.args.worked.now) _ c.in_err-check_balances.ensures))

pub check_routes-requires : goal.check_routes-requires
check_routes-requires c = c.in_ok-check_arrivals.ensures.kept

pub returns : goal.returns
unfolding compared_list
returns c =
    tries_as (λ _. tt) c.check_routes.result (in_view compared_list c.args.worked.now) _
    (goes_on (in_view arrivals_list c.args.worked.now) _ tt c.in_ok-check_arrivals.ensures.tries
    ∙ goes_on (in_view told_list c.args.worked.now) _ tt c.in_ok-check_told.ensures
    ∙ goes_on (in_view balances_list c.args.worked.now) _ tt c.in_ok-check_balances.ensures)
    c.check_routes.ensures.tries
