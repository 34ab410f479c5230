use Rattle.std.proofs.Common.{List, ◌&&◌, sym, ap, subst, ◌∙◌, Ok, Some}
use Rattle.nf_load.proofs.Common.{err_from_is_err_and, lt_ℚ, le_ℚ, passes_Q, is_zero, is_positive, checked_slope, Load, was_ok, IsPaced, Over}
use Rattle.nf_load_def.specs.Loading as lists
use Rattle.nf_load.proofs.Pacing.{level_paced, first_true}
use Rattle.nf_load.proofs.OverPieces.{slope_passes, stays, goes}
use Rattle.nf_load.proofs.waiting.over_bounded.Goals as goal

pub returns-in_err-rate-clause-list : goal.returns-in_err-rate-clause-list
returns-in_err-rate-clause-list c =
    let p = err_from_is_err_and c.from_residual.result c.from_residual.ensures.1 in
    rw (p.1, p.2) (slope_passes passes_Q c.args.capacity c.args.before.now c.args.end.now c.in_err-rate.field-0.0 c.in_err-rate.ensures)

pub returns-then-stays_empty-clause-list : goal.returns-then-stays_empty-clause-list
returns-then-stays_empty-clause-list c =
    ap (λ (l : List lists.Waits). Ok l) c.empty_at.ensures.list
    ∙ stays passes_Q c.args.capacity c.args.before.now c.args.end.now c.in_ok-rate.rate c.in_ok-rate.ensures c.stays_empty.result
    (c.stays_empty.ensures ∙ ap (λ (w : lists.Waits). is_zero w.queue && le_ℚ c.in_ok-rate.rate c.args.capacity) c.before-2.view_is) c.if-stays_empty.true

pub returns-then-drains-clause-list : goal.returns-then-drains-clause-list
returns-then-drains-clause-list c =
    c.drain.ensures.list
    ∙ goes passes_Q c.args.capacity c.args.before.now c.args.end.now c.in_ok-rate.rate c.in_ok-rate.ensures c.stays_empty.result
    (c.stays_empty.ensures ∙ ap (λ (w : lists.Waits). is_zero w.queue && le_ℚ c.in_ok-rate.rate c.args.capacity) c.before-2.view_is) c.if-stays_empty.false c.drains.result _
    (c.drains.ensures.test ∙ ap (λ (w : lists.Waits). is_positive w.queue && lt_ℚ c.in_ok-rate.rate c.args.capacity) c.before-2.view_is) c.if-drains.true

pub returns-clause-list : goal.returns-clause-list
returns-clause-list c =
    c.grow.ensures.list
    ∙ goes passes_Q c.args.capacity c.args.before.now c.args.end.now c.in_ok-rate.rate c.in_ok-rate.ensures c.stays_empty.result
    (c.stays_empty.ensures ∙ ap (λ (w : lists.Waits). is_zero w.queue && le_ℚ c.in_ok-rate.rate c.args.capacity) c.before-2.view_is) c.if-stays_empty.false c.drains.result _
    (c.drains.ensures.test ∙ ap (λ (w : lists.Waits). is_positive w.queue && lt_ℚ c.in_ok-rate.rate c.args.capacity) c.before-2.view_is) c.if-drains.false

pub returns-then-stays_empty-clause-pace : goal.returns-then-stays_empty-clause-pace
returns-then-stays_empty-clause-pace c =
    subst (λ (o : Over). IsPaced (Some c.args.capacity) c.args.before.now o) (sym c.empty_at.ensures.over)
    (level_paced (Some c.args.capacity) c.args.before.now c.args.end.now (Some c.in_ok-rate.rate) c.requires.later
    (was_ok Load (checked_slope passes_Q (c.args.before.now.time, c.args.before.now.amount) c.args.end.now) c.in_ok-rate.rate (sym c.in_ok-rate.ensures))
    (first_true (is_zero c.args.before.now.queue) (le_ℚ c.in_ok-rate.rate c.args.capacity) c.stays_empty.result
    (c.stays_empty.ensures ∙ ap (λ (w : lists.Waits). is_zero w.queue && le_ℚ c.in_ok-rate.rate c.args.capacity) c.before-2.view_is) c.if-stays_empty.true))

pub drain-requires-clause-rate : goal.drain-requires-clause-rate
drain-requires-clause-rate c = was_ok Load (checked_slope passes_Q (c.args.before.now.time, c.args.before.now.amount) c.args.end.now) c.in_ok-rate.rate (sym c.in_ok-rate.ensures)

pub grow-requires-clause-rate : goal.grow-requires-clause-rate
grow-requires-clause-rate c = was_ok Load (checked_slope passes_Q (c.args.before.now.time, c.args.before.now.amount) c.args.end.now) c.in_ok-rate.rate (sym c.in_ok-rate.ensures)
