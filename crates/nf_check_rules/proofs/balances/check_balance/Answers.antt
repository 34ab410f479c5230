use Rattle.std.proofs.Common.{sym, ap, ◌∙◌}
use Rattle.nf_check_rules.proofs.Common.{err_from_is_err_and, ℚ, points_of, passes_Q, Check, C6, Node, total_in, total_out, balance, flow_in, loaded_in}
use Rattle.nf_check_rules.proofs.Common.{in_view, compared_by, with_supply_by, of_halt}
use Rattle.nf_check_rules.proofs.Trying.{part_goes, part_stops, ends_as, tries_as}
use Rattle.nf_check_rules.proofs.balances.check_balance.Goals as goal

pub returns-in_err-comes : goal.returns-in_err-comes
returns-in_err-comes c =
    let p = err_from_is_err_and c.from_residual.result c.from_residual.ensures.1 in
    rw (p.1, p.2) (part_stops Check (total_in passes_Q (loaded_in c.args.worked.now) c.args.worked.now.net.now.net.links c.args.node) _ c.in_err-comes.field-0.0 c.in_err-comes.ensures)

pub returns-in_err-total : goal.returns-in_err-total
returns-in_err-total c =
    let p = err_from_is_err_and c.from_residual-in_err-total.result c.from_residual-in_err-total.ensures.1 in
    rw (p.1, p.2) (ends_as (of_halt c.in_err-total.field-0.0) (in_view balance c.args.worked.now c.args.supplied.now.points c.args.node) _
    (part_goes Check (total_in passes_Q (loaded_in c.args.worked.now) c.args.worked.now.net.now.net.links c.args.node) _ c.in_ok-comes.comes.points c.in_ok-comes.ensures)
    (part_stops Check (with_supply_by passes_Q c.args.worked.now.net.now.net c.args.supplied.now.points c.args.node c.in_ok-comes.comes.points) _
    c.in_err-total.field-0.0 c.in_err-total.ensures))

pub returns-in_err-goes : goal.returns-in_err-goes
returns-in_err-goes c =
    let p = err_from_is_err_and c.from_residual-in_err-goes.result c.from_residual-in_err-goes.ensures.1 in
    rw (p.1, p.2) (ends_as (of_halt c.in_err-goes.field-0.0) (in_view balance c.args.worked.now c.args.supplied.now.points c.args.node) _
    (part_goes Check (total_in passes_Q (loaded_in c.args.worked.now) c.args.worked.now.net.now.net.links c.args.node) _ c.in_ok-comes.comes.points c.in_ok-comes.ensures
    ∙ part_goes Check (with_supply_by passes_Q c.args.worked.now.net.now.net c.args.supplied.now.points c.args.node c.in_ok-comes.comes.points) _
    c.in_ok-total.total.points c.in_ok-total.ensures)
    (part_stops Check (total_out passes_Q (points_of (flow_in c.args.worked.now).inflows) c.args.worked.now.net.now.net.links c.args.node) _
    c.in_err-goes.field-0.0 c.in_err-goes.ensures))

pub returns : goal.returns
returns c =
    tries_as (λ _. tt) c.compare.result (in_view balance c.args.worked.now c.args.supplied.now.points c.args.node)
    (compared_by passes_Q C6 (Node c.args.node) c.in_ok-total.total.points c.in_ok-goes.goes.points c.end_at.result)
    (part_goes Check (total_in passes_Q (loaded_in c.args.worked.now) c.args.worked.now.net.now.net.links c.args.node) _ c.in_ok-comes.comes.points c.in_ok-comes.ensures
    ∙ part_goes Check (with_supply_by passes_Q c.args.worked.now.net.now.net c.args.supplied.now.points c.args.node c.in_ok-comes.comes.points) _
    c.in_ok-total.total.points c.in_ok-total.ensures
    ∙ part_goes Check (total_out passes_Q (points_of (flow_in c.args.worked.now).inflows) c.args.worked.now.net.now.net.links c.args.node) _ c.in_ok-goes.goes.points c.in_ok-goes.ensures
    ∙ ap (λ (t : ℚ). compared_by passes_Q C6 (Node c.args.node) c.in_ok-total.total.points c.in_ok-goes.goes.points t) (sym c.end_at.ensures.end))
    c.compare.ensures

pub total_in-requires : goal.total_in-requires
total_in-requires c = c.args.worked.now.known.links

pub total_out-requires : goal.total_out-requires
total_out-requires c = c.args.worked.now.known.inflows

pub end_at-requires : goal.end_at-requires
end_at-requires c = c.requires
