use Rattle.std.proofs.Common.{sym, ap, ◌∙◌}
use Rattle.nf_check_rules.proofs.Common.{err_from_is_err_and, passes_Q, Check, at_part, after_ok, after_err, stops_on, points_in, sent_on_link, detours_of}
use Rattle.nf_check_rules.proofs.Stretching.{detour-is}
use Rattle.nf_check_rules.proofs.routes.detour.Goals as goal

pub returns-in_err-sent : goal.returns-in_err-sent
returns-in_err-sent c =
    let p = err_from_is_err_and c.from_residual.result c.from_residual.ensures.1 in
    rw (p.1, p.2) (stops_on c.in_err-sent.field-0.0 (at_part Check (sent_on_link c.args.link.now)) (at_part Check (detours_of c.args.link.now))
    (λ q e. ap (at_part Check) (detour-is passes_Q c.args.link.now.inflow.now.points c.args.link.now.exit.now.points c.args.link.now.tail_label.now.points
    c.args.link.now.head_label.now.points c.args.link.now.last) ∙ after_err Check (sent_on_link c.args.link.now) _ q e) c.in_err-sent.ensures.list)

pub first_detour-requires : goal.first_detour-requires
first_detour-requires c = c.in_ok-sent.ensures.curves

pub returns-in_err-detour : goal.returns-in_err-detour
returns-in_err-detour c =
    let p = err_from_is_err_and c.from_residual-in_err-detour.result c.from_residual-in_err-detour.ensures.1 in
    rw (p.1, p.2) (ap (at_part Check) (detour-is passes_Q c.args.link.now.inflow.now.points c.args.link.now.exit.now.points
    c.args.link.now.tail_label.now.points c.args.link.now.head_label.now.points c.args.link.now.last)
    ∙ after_ok Check (sent_on_link c.args.link.now) _ (points_in c.in_ok-sent.sent) c.in_ok-sent.ensures.list
    ∙ sym c.in_err-detour.ensures)

pub returns : goal.returns
returns c =
    ap (at_part Check) (detour-is passes_Q c.args.link.now.inflow.now.points c.args.link.now.exit.now.points c.args.link.now.tail_label.now.points
    c.args.link.now.head_label.now.points c.args.link.now.last) ∙ after_ok Check (sent_on_link c.args.link.now) _
    (points_in c.in_ok-sent.sent) c.in_ok-sent.ensures.list
    ∙ sym c.in_ok-detour.ensures
