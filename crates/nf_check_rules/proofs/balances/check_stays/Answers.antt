use Rattle.std.proofs.Common.{ℕ, ap, sym, ◌∙◌}
use Rattle.nf_check_rules.proofs.Common.{err_from_is_err_and, passes_Q, Check, checked_sum, checked_composed, C7, Node, compared_by, stays_by, of_halt}
use Rattle.nf_check_rules.proofs.Trying.{part_goes, part_stops, ends_as, tries_as}
use Rattle.nf_check_rules.proofs.Known.{never_negative}
use Rattle.nf_check_rules.proofs.balances.check_stays.Goals as goal

pub compose-requires-clause-inner : goal.compose-requires-clause-inner
compose-requires-clause-inner c = λ time w. never_negative c.args.label.now.points c.requires time w.0

pub returns-in_err-come : goal.returns-in_err-come
returns-in_err-come c =
    let p = err_from_is_err_and c.from_residual.result c.from_residual.ensures.1 in
    rw (p.1, p.2) (part_stops Check (checked_composed passes_Q c.args.comes.now.points c.args.label.now.points c.args.worked.now.flow.now.reached) _
    c.in_err-come.field-0.0 c.in_err-come.ensures.list)

pub compose-requires-2-clause-inner : goal.compose-requires-2-clause-inner
compose-requires-2-clause-inner c = λ time w. never_negative c.args.label.now.points c.requires time w.0

pub returns-in_err-gone : goal.returns-in_err-gone
returns-in_err-gone c =
    let p = err_from_is_err_and c.from_residual-in_err-gone.result c.from_residual-in_err-gone.ensures.1 in
    rw (p.1, p.2) (ends_as (of_halt c.in_err-gone.field-0.0) (stays_by passes_Q c.args.worked.now.net.now.net.sink c.args.label.now.points
    c.args.comes.now.points c.args.goes.now.points c.args.supplied.now.points c.args.worked.now.flow.now.reached) _
    (part_goes Check (checked_composed passes_Q c.args.comes.now.points c.args.label.now.points c.args.worked.now.flow.now.reached) _ c.in_ok-come.come.points c.in_ok-come.ensures.list)
    (part_stops Check (checked_composed passes_Q c.args.goes.now.points c.args.label.now.points c.args.worked.now.flow.now.reached) _ c.in_err-gone.field-0.0 c.in_err-gone.ensures.list))

pub returns-in_err-total : goal.returns-in_err-total
returns-in_err-total c =
    let p = err_from_is_err_and c.from_residual-in_err-total.result c.from_residual-in_err-total.ensures.1 in
    rw (p.1, p.2) (ends_as (of_halt c.in_err-total.field-0.0) (stays_by passes_Q c.args.worked.now.net.now.net.sink c.args.label.now.points
    c.args.comes.now.points c.args.goes.now.points c.args.supplied.now.points c.args.worked.now.flow.now.reached) _
    (part_goes Check (checked_composed passes_Q c.args.comes.now.points c.args.label.now.points c.args.worked.now.flow.now.reached) _ c.in_ok-come.come.points c.in_ok-come.ensures.list
    ∙ part_goes Check (checked_composed passes_Q c.args.goes.now.points c.args.label.now.points c.args.worked.now.flow.now.reached) _ c.in_ok-gone.gone.points c.in_ok-gone.ensures.list)
    (part_stops Check (checked_sum passes_Q c.in_ok-gone.gone.points c.args.supplied.now.points) _ c.in_err-total.field-0.0 c.in_err-total.ensures.list))

pub returns : goal.returns
returns c =
    tries_as (λ _. tt) c.compare.result (stays_by passes_Q c.args.worked.now.net.now.net.sink c.args.label.now.points c.args.comes.now.points
    c.args.goes.now.points c.args.supplied.now.points c.args.worked.now.flow.now.reached)
    (compared_by passes_Q C7 (Node c.sink.result) c.in_ok-come.come.points c.in_ok-total.total.points c.args.worked.now.flow.now.reached)
    (part_goes Check (checked_composed passes_Q c.args.comes.now.points c.args.label.now.points c.args.worked.now.flow.now.reached) _ c.in_ok-come.come.points c.in_ok-come.ensures.list
    ∙ part_goes Check (checked_composed passes_Q c.args.goes.now.points c.args.label.now.points c.args.worked.now.flow.now.reached) _ c.in_ok-gone.gone.points c.in_ok-gone.ensures.list
    ∙ part_goes Check (checked_sum passes_Q c.in_ok-gone.gone.points c.args.supplied.now.points) _ c.in_ok-total.total.points c.in_ok-total.ensures.list
    ∙ ap (λ (v : ℕ). compared_by passes_Q C7 (Node v) c.in_ok-come.come.points c.in_ok-total.total.points c.args.worked.now.flow.now.reached) (sym c.sink.ensures.value))
    c.compare.ensures

pub compose-requires-clause-until : goal.compose-requires-clause-until
compose-requires-clause-until c = c.args.worked.now.known.reached

pub compose-requires-2-clause-until : goal.compose-requires-2-clause-until
compose-requires-2-clause-until c = c.args.worked.now.known.reached

pub compare-requires : goal.compare-requires
compare-requires c = c.args.worked.now.known.reached
