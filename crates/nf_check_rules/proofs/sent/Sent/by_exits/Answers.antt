use Rattle.std.proofs.Common.{◌∙◌}
use Rattle.nf_check_rules.proofs.Common.{err_from_is_err_and, passes_Q, at_part, Check, checked_composed, checked_short, after_err, after_ok, stops_on}
use Rattle.nf_check_rules.proofs.Common.{known_on_link}
use Rattle.nf_check_rules.specs.Sent.{known_list}
use Rattle.nf_check_rules.proofs.sent.Sent.by_exits.Goals as goal

pub returns-in_err-all_taken-clause-list : goal.returns-in_err-all_taken-clause-list
unfolding known_list
returns-in_err-all_taken-clause-list c =
    let p = err_from_is_err_and c.from_residual.result c.from_residual.ensures.1 in
    let taken = checked_composed passes_Q c.args.link.now.inflow.now.points c.args.link.now.tail_label.now.points c.args.link.now.last in
    rw (p.1, p.2) (stops_on c.in_err-all_taken.field-0.0 (at_part Check taken) (at_part Check (known_on_link c.args.link.now c.args.exits.points))
    (λ q e. after_err Check taken _ q e) c.in_err-all_taken.ensures)

pub returns-in_err-taken-clause-list : goal.returns-in_err-taken-clause-list
unfolding known_list
returns-in_err-taken-clause-list c =
    let p = err_from_is_err_and c.from_residual-in_err-taken.result c.from_residual-in_err-taken.ensures.1 in
    let taken = checked_composed passes_Q c.args.link.now.inflow.now.points c.args.link.now.tail_label.now.points c.args.link.now.last in
    rw (p.1, p.2) (stops_on c.in_err-taken.field-0.0 (at_part Check (checked_short passes_Q c.in_ok-all_taken.all_taken.points))
    (at_part Check (known_on_link c.args.link.now c.args.exits.points))
    (λ q e. after_ok Check taken _ c.in_ok-all_taken.all_taken.points c.in_ok-all_taken.ensures
    ∙ after_err Check (checked_short passes_Q c.in_ok-all_taken.all_taken.points) _ q e) c.in_err-taken.ensures.list)

pub returns-in_err-labels-clause-list : goal.returns-in_err-labels-clause-list
unfolding known_list
returns-in_err-labels-clause-list c =
    let p = err_from_is_err_and c.from_residual-in_err-labels.result c.from_residual-in_err-labels.ensures.1 in
    let taken = checked_composed passes_Q c.args.link.now.inflow.now.points c.args.link.now.tail_label.now.points c.args.link.now.last in
    rw (p.1, p.2) (stops_on c.in_err-labels.field-0.0 (at_part Check (checked_short passes_Q c.args.link.now.head_label.now.points))
    (at_part Check (known_on_link c.args.link.now c.args.exits.points))
    (λ q e. after_ok Check taken _ c.in_ok-all_taken.all_taken.points c.in_ok-all_taken.ensures
    ∙ after_ok Check (checked_short passes_Q c.in_ok-all_taken.all_taken.points) _ c.in_ok-taken.taken.points c.in_ok-taken.ensures.list
    ∙ after_err Check (checked_short passes_Q c.args.link.now.head_label.now.points) _ q e) c.in_err-labels.ensures.list)

pub returns-clause-list : goal.returns-clause-list
unfolding known_list
returns-clause-list c =
    after_ok Check (checked_composed passes_Q c.args.link.now.inflow.now.points c.args.link.now.tail_label.now.points c.args.link.now.last) _
    c.in_ok-all_taken.all_taken.points c.in_ok-all_taken.ensures
    ∙ after_ok Check (checked_short passes_Q c.in_ok-all_taken.all_taken.points) _ c.in_ok-taken.taken.points c.in_ok-taken.ensures.list
    ∙ after_ok Check (checked_short passes_Q c.args.link.now.head_label.now.points) _ c.in_ok-labels.labels.points c.in_ok-labels.ensures.list

pub returns-clause-curves : goal.returns-clause-curves
returns-clause-curves c = record { taken = c.in_ok-taken.ensures.short.curve; exits = c.recall.ensures.curve; labels = c.in_ok-labels.ensures.short.curve }
