use Rattle.std.proofs.Common.{◌∙◌}
use Rattle.nf_check_rules.proofs.Common.{err_from_is_err_and, passes_Q, at_part, Check, checked_composed, checked_short, after_err, after_ok, stops_on}
use Rattle.nf_check_rules.proofs.Common.{sent_on_link}
use Rattle.nf_check_rules.specs.Sent.{sent_list}
use Rattle.nf_check_rules.proofs.sent.Sent.by_exit.Goals as goal

pub returns-in_err-all_taken-clause-list : goal.returns-in_err-all_taken-clause-list
unfolding sent_list
returns-in_err-all_taken-clause-list c =
    let p = err_from_is_err_and c.from_residual.result c.from_residual.ensures.1 in
    let taken = checked_composed passes_Q c.args.link.now.inflow.now.points c.args.link.now.tail_label.now.points c.args.link.now.last in
    rw (p.1, p.2) (stops_on c.in_err-all_taken.field-0.0 (at_part Check taken) (at_part Check (sent_on_link c.args.link.now))
    (λ q e. after_err Check taken _ q e) c.in_err-all_taken.ensures)

pub returns-in_err-all_exits-clause-list : goal.returns-in_err-all_exits-clause-list
unfolding sent_list
returns-in_err-all_exits-clause-list c =
    let p = err_from_is_err_and c.from_residual-in_err-all_exits.result c.from_residual-in_err-all_exits.ensures.1 in
    let taken = checked_composed passes_Q c.args.link.now.inflow.now.points c.args.link.now.tail_label.now.points c.args.link.now.last in
    let exits = checked_composed passes_Q c.args.link.now.exit.now.points c.args.link.now.tail_label.now.points c.args.link.now.last in
    rw (p.1, p.2) (stops_on c.in_err-all_exits.field-0.0 (at_part Check exits) (at_part Check (sent_on_link c.args.link.now))
    (λ q e. after_ok Check taken _ c.in_ok-all_taken.all_taken.points c.in_ok-all_taken.ensures ∙ after_err Check exits _ q e) c.in_err-all_exits.ensures)

pub returns-in_err-taken-clause-list : goal.returns-in_err-taken-clause-list
unfolding sent_list
returns-in_err-taken-clause-list c =
    let p = err_from_is_err_and c.from_residual-in_err-taken.result c.from_residual-in_err-taken.ensures.1 in
    let taken = checked_composed passes_Q c.args.link.now.inflow.now.points c.args.link.now.tail_label.now.points c.args.link.now.last in
    let exits = checked_composed passes_Q c.args.link.now.exit.now.points c.args.link.now.tail_label.now.points c.args.link.now.last in
    rw (p.1, p.2) (stops_on c.in_err-taken.field-0.0 (at_part Check (checked_short passes_Q c.in_ok-all_taken.all_taken.points)) (at_part Check (sent_on_link c.args.link.now))
    (λ q e. after_ok Check taken _ c.in_ok-all_taken.all_taken.points c.in_ok-all_taken.ensures ∙ after_ok Check exits _ c.in_ok-all_exits.all_exits.points c.in_ok-all_exits.ensures
    ∙ after_err Check (checked_short passes_Q c.in_ok-all_taken.all_taken.points) _ q e) c.in_err-taken.ensures.list)

pub returns-in_err-exits-clause-list : goal.returns-in_err-exits-clause-list
unfolding sent_list
returns-in_err-exits-clause-list c =
    let p = err_from_is_err_and c.from_residual-in_err-exits.result c.from_residual-in_err-exits.ensures.1 in
    let taken = checked_composed passes_Q c.args.link.now.inflow.now.points c.args.link.now.tail_label.now.points c.args.link.now.last in
    let exits = checked_composed passes_Q c.args.link.now.exit.now.points c.args.link.now.tail_label.now.points c.args.link.now.last in
    rw (p.1, p.2) (stops_on c.in_err-exits.field-0.0 (at_part Check (checked_short passes_Q c.in_ok-all_exits.all_exits.points)) (at_part Check (sent_on_link c.args.link.now))
    (λ q e. after_ok Check taken _ c.in_ok-all_taken.all_taken.points c.in_ok-all_taken.ensures ∙ after_ok Check exits _ c.in_ok-all_exits.all_exits.points c.in_ok-all_exits.ensures
    ∙ after_ok Check (checked_short passes_Q c.in_ok-all_taken.all_taken.points) _ c.in_ok-taken.taken.points c.in_ok-taken.ensures.list
    ∙ after_err Check (checked_short passes_Q c.in_ok-all_exits.all_exits.points) _ q e) c.in_err-exits.ensures.list)

pub returns-in_err-labels-clause-list : goal.returns-in_err-labels-clause-list
unfolding sent_list
returns-in_err-labels-clause-list c =
    let p = err_from_is_err_and c.from_residual-in_err-labels.result c.from_residual-in_err-labels.ensures.1 in
    let taken = checked_composed passes_Q c.args.link.now.inflow.now.points c.args.link.now.tail_label.now.points c.args.link.now.last in
    let exits = checked_composed passes_Q c.args.link.now.exit.now.points c.args.link.now.tail_label.now.points c.args.link.now.last in
    rw (p.1, p.2) (stops_on c.in_err-labels.field-0.0 (at_part Check (checked_short passes_Q c.args.link.now.head_label.now.points)) (at_part Check (sent_on_link c.args.link.now))
    (λ q e. after_ok Check taken _ c.in_ok-all_taken.all_taken.points c.in_ok-all_taken.ensures ∙ after_ok Check exits _ c.in_ok-all_exits.all_exits.points c.in_ok-all_exits.ensures
    ∙ after_ok Check (checked_short passes_Q c.in_ok-all_taken.all_taken.points) _ c.in_ok-taken.taken.points c.in_ok-taken.ensures.list
    ∙ after_ok Check (checked_short passes_Q c.in_ok-all_exits.all_exits.points) _ c.in_ok-exits.exits.points c.in_ok-exits.ensures.list
    ∙ after_err Check (checked_short passes_Q c.args.link.now.head_label.now.points) _ q e) c.in_err-labels.ensures.list)

pub returns-clause-list : goal.returns-clause-list
unfolding sent_list
returns-clause-list c =
    after_ok Check (checked_composed passes_Q c.args.link.now.inflow.now.points c.args.link.now.tail_label.now.points c.args.link.now.last) _
    c.in_ok-all_taken.all_taken.points c.in_ok-all_taken.ensures
    ∙ after_ok Check (checked_composed passes_Q c.args.link.now.exit.now.points c.args.link.now.tail_label.now.points c.args.link.now.last) _
    c.in_ok-all_exits.all_exits.points c.in_ok-all_exits.ensures
    ∙ after_ok Check (checked_short passes_Q c.in_ok-all_taken.all_taken.points) _ c.in_ok-taken.taken.points c.in_ok-taken.ensures.list
    ∙ after_ok Check (checked_short passes_Q c.in_ok-all_exits.all_exits.points) _ c.in_ok-exits.exits.points c.in_ok-exits.ensures.list
    ∙ after_ok Check (checked_short passes_Q c.args.link.now.head_label.now.points) _ c.in_ok-labels.labels.points c.in_ok-labels.ensures.list

pub returns-clause-curves : goal.returns-clause-curves
returns-clause-curves c = record { taken = c.in_ok-taken.ensures.short.curve; exits = c.in_ok-exits.ensures.short.curve; labels = c.in_ok-labels.ensures.short.curve }
