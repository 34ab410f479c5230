use Rattle.std.proofs.Common.{sym, ◌∙◌}
use Rattle.nf_check_rules.proofs.Common.{difference_of, err_from_is_err_and, passes_Q, Check, sides_at, checked_middle, after_ok, after_err}
use Rattle.nf_check_rules.proofs.Stretching.{middle_from}
use Rattle.nf_check_rules.proofs.stretches.at_middle.Goals as goal

pub sides_at-requires-clause-time : goal.sides_at-requires-clause-time
sides_at-requires-clause-time c = middle_from passes_Q c.args.first c.args.next c.in_ok-time.time c.requires.first c.requires.next (sym c.in_ok-time.ensures)

pub returns-in_err-sides : goal.returns-in_err-sides
returns-in_err-sides c =
    let p = err_from_is_err_and c.from_residual-in_err-sides.result c.from_residual-in_err-sides.ensures.1 in
    rw (p.1, p.2) (sym (after_ok Check (checked_middle passes_Q c.args.first c.args.next) _ c.in_ok-time.time (sym c.in_ok-time.ensures)
    ∙ after_err Check (sides_at passes_Q c.args.sent.now.exits.points c.args.sent.now.labels.points c.in_ok-time.time) _ c.in_err-sides.field-0.0 (sym c.in_err-sides.ensures)))

pub returns-in_err-time : goal.returns-in_err-time
returns-in_err-time c =
    let p = err_from_is_err_and c.from_residual.result c.from_residual.ensures.1 in
    rw (p.1, p.2) (sym (after_err Check (checked_middle passes_Q c.args.first c.args.next) _ c.in_err-time.field-0.0 (sym c.in_err-time.ensures)))

pub returns : goal.returns
returns c =
    sym (after_ok Check (checked_middle passes_Q c.args.first c.args.next) _ c.in_ok-time.time (sym c.in_ok-time.ensures)
    ∙ after_ok Check (sides_at passes_Q c.args.sent.now.exits.points c.args.sent.now.labels.points c.in_ok-time.time) _ (difference_of c.in_ok-sides.sides) (sym c.in_ok-sides.ensures))
