use Rattle.std.proofs.Common.{[], ◌∷◌, sym, ap, ◌∙◌, Ok}
use Rattle.nf_load.proofs.Common.{err_from_is_err_and, ℚ, Difference, Load, passes_Q, checked, at_part, after_err, after_ok, was_ok, grown_by}
use Rattle.nf_load_def.specs.Loading as lists
use Rattle.nf_load.proofs.Pacing.{change_passes, change_goes, grown_paced}
use Rattle.nf_load.proofs.waiting.grow.Goals as goal

pub returns-in_err-change-clause-list : goal.returns-in_err-change-clause-list
returns-in_err-change-clause-list c =
    let p = err_from_is_err_and c.from_residual.result c.from_residual.ensures.1 in
    rw (p.1, p.2) (sym (change_passes Load passes_Q c.args.capacity c.args.rate c.args.before.now c.args.end.now c.in_err-change.field-0.0 (sym c.in_err-change.ensures)))

pub returns-in_err-queue-clause-list : goal.returns-in_err-queue-clause-list
returns-in_err-queue-clause-list c =
    let p = err_from_is_err_and c.from_residual-in_err-queue.result c.from_residual-in_err-queue.ensures.1 in
    rw (p.1, p.2) (sym (change_goes Load passes_Q c.args.capacity c.args.rate c.args.before.now c.args.end.now c.in_ok-change.change (sym c.in_ok-change.ensures)
    ∙ after_err Load (grown_by passes_Q c.in_ok-change.change c.args.before.now.queue c.args.before.now.time c.args.end.now.0) _ c.in_err-queue.field-0.0
    (sym (c.in_err-queue.ensures ∙ ap (λ (w : lists.Waits). at_part Load (grown_by passes_Q c.in_ok-change.change w.queue w.time c.args.end.now.0)) c.before-2.view_is))))

pub returns-clause-list : goal.returns-clause-list
returns-clause-list c =
    sym (change_goes Load passes_Q c.args.capacity c.args.rate c.args.before.now c.args.end.now c.in_ok-change.change (sym c.in_ok-change.ensures)
    ∙ after_ok Load (grown_by passes_Q c.in_ok-change.change c.args.before.now.queue c.args.before.now.time c.args.end.now.0)
    (λ (queue : ℚ). Ok (record { time = c.args.end.now.0; amount = c.args.end.now.1; queue = queue } ∷ [])) c.in_ok-queue.queue
    (sym (c.in_ok-queue.ensures ∙ ap (λ (w : lists.Waits). at_part Load (grown_by passes_Q c.in_ok-change.change w.queue w.time c.args.end.now.0)) c.before-2.view_is)))

pub returns-clause-pace : goal.returns-clause-pace
returns-clause-pace c =
    grown_paced c.args.capacity c.args.rate c.in_ok-change.change c.args.before.now c.args.end.now c.in_ok-queue.queue c.recall.ensures c.requires.later
    c.requires.rate
    (was_ok Load (checked passes_Q Difference c.args.rate c.args.capacity) c.in_ok-change.change (sym c.in_ok-change.ensures))
    (was_ok Load (grown_by passes_Q c.in_ok-change.change c.args.before.now.queue c.args.before.now.time c.args.end.now.0) c.in_ok-queue.queue
    (sym (c.in_ok-queue.ensures ∙ ap (λ (w : lists.Waits). at_part Load (grown_by passes_Q c.in_ok-change.change w.queue w.time c.args.end.now.0)) c.before-2.view_is)))
