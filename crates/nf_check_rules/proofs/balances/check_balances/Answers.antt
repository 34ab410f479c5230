use Rattle.std.proofs.Common.{◌∙◌}
use Rattle.nf_check_rules.proofs.Common.{err_from_is_err_and, passes_Q, each, Load, checked_cumulative, nodes_but, balance, in_view, done}
use Rattle.nf_check_rules.specs.Steps.{balances_list}
use Rattle.nf_check_rules.proofs.Trying.{goes_on, ends, ends_as, part_goes, part_stops, tries_as}
use Rattle.nf_check_rules.proofs.balances.check_balances.Goals as goal

pub returns-in_err-supplied : goal.returns-in_err-supplied
unfolding balances_list
returns-in_err-supplied c =
    let p = err_from_is_err_and c.from_residual.result c.from_residual.ensures.1 in
    rw (p.1, p.2) (part_stops Load (checked_cumulative passes_Q c.args.worked.now.net.now.net.pieces c.args.worked.now.flow.now.reached) _
    c.in_err-supplied.field-0.0 (rw c.pieces.ensures.value at c.in_err-supplied.ensures.list))

pub returns-in_err-check_balances_at : goal.returns-in_err-check_balances_at
unfolding balances_list
returns-in_err-check_balances_at c =
    let p = err_from_is_err_and c.from_residual-in_err-check_balances_at.result c.from_residual-in_err-check_balances_at.ensures.1 in
    rw (p.1, p.2) (ends_as c.in_err-check_balances_at.field-0.0 (in_view balances_list c.args.worked.now) _
    (part_goes Load (checked_cumulative passes_Q c.args.worked.now.net.now.net.pieces c.args.worked.now.flow.now.reached) _ c.in_ok-supplied.supplied.points
    (rw c.pieces.ensures.value at c.in_ok-supplied.ensures.list))
    (ends c.in_err-check_balances_at.field-0.0
    (done (each (in_view balance c.args.worked.now c.in_ok-supplied.supplied.points) (nodes_but c.args.worked.now.net.now.net.sink c.args.worked.now.net.now.net))) _
    c.in_err-check_balances_at.ensures))

pub returns : goal.returns
unfolding balances_list
returns c =
    tries_as (λ _. tt) c.check_sink.result (in_view balances_list c.args.worked.now) _
    (part_goes Load (checked_cumulative passes_Q c.args.worked.now.net.now.net.pieces c.args.worked.now.flow.now.reached) _ c.in_ok-supplied.supplied.points
    (rw c.pieces.ensures.value at c.in_ok-supplied.ensures.list)
    ∙ goes_on (done (each (in_view balance c.args.worked.now c.in_ok-supplied.supplied.points) (nodes_but c.args.worked.now.net.now.net.sink c.args.worked.now.net.now.net))) _
    tt c.in_ok-check_balances_at.ensures)
    c.check_sink.ensures

pub cumulative-requires-clause-until : goal.cumulative-requires-clause-until
cumulative-requires-clause-until c = c.args.worked.now.known.reached
