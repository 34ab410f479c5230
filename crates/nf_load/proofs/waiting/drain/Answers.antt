use Rattle.std.proofs.Common.{Bool, sym, ap, ◌∙◌, Some}
use Rattle.nf_load.proofs.Common.{err_from_is_err_and, ℚ, lt_ℚ, Load, passes_Q, at_part, after_err, after_ok}
use Rattle.nf_load_def.specs.Loading as lists
use Rattle.nf_load.proofs.waiting.drain.Goals as goal

pub returns-then-is_below-clause-list : goal.returns-then-is_below-clause-list
returns-then-is_below-clause-list c =
    c.drain_at.ensures.list c.args.capacity c.args.rate
    ∙ ap (λ (b : Bool). at_part Load (lists.drains_at passes_Q b c.args.capacity c.args.rate c.args.before.now c.args.end.now c.in_ok-time.time))
    (sym (sym c.is_below.ensures ∙ c.if-is_below.true))
    ∙ sym (after_ok Load (lists.drained passes_Q c.args.capacity c.args.rate c.args.before.now.queue c.args.before.now.time)
    (λ (time : ℚ). lists.drains_at passes_Q (lt_ℚ time c.args.end.now.0) c.args.capacity c.args.rate c.args.before.now c.args.end.now time) c.in_ok-time.time
    (sym (c.in_ok-time.ensures ∙ ap (λ (w : lists.Waits). at_part Load (lists.drained passes_Q c.args.capacity c.args.rate w.queue w.time)) c.before-2.view_is)))

pub returns-in_err-time-clause-list : goal.returns-in_err-time-clause-list
returns-in_err-time-clause-list c =
    let p = err_from_is_err_and c.from_residual.result c.from_residual.ensures.1 in
    rw (p.1, p.2) (sym (after_err Load (lists.drained passes_Q c.args.capacity c.args.rate c.args.before.now.queue c.args.before.now.time) _ c.in_err-time.field-0.0
    (sym (c.in_err-time.ensures ∙ ap (λ (w : lists.Waits). at_part Load (lists.drained passes_Q c.args.capacity c.args.rate w.queue w.time)) c.before-2.view_is))))

pub returns-clause-list : goal.returns-clause-list
returns-clause-list c =
    c.grow.ensures.list
    ∙ ap (λ (b : Bool). at_part Load (lists.drains_at passes_Q b c.args.capacity c.args.rate c.args.before.now c.args.end.now c.in_ok-time.time))
    (sym (sym c.is_below.ensures ∙ c.if-is_below.false))
    ∙ sym (after_ok Load (lists.drained passes_Q c.args.capacity c.args.rate c.args.before.now.queue c.args.before.now.time)
    (λ (time : ℚ). lists.drains_at passes_Q (lt_ℚ time c.args.end.now.0) c.args.capacity c.args.rate c.args.before.now c.args.end.now time) c.in_ok-time.time
    (sym (c.in_ok-time.ensures ∙ ap (λ (w : lists.Waits). at_part Load (lists.drained passes_Q c.args.capacity c.args.rate w.queue w.time)) c.before-2.view_is)))

pub returns-then-is_below-clause-pace : goal.returns-then-is_below-clause-pace
returns-then-is_below-clause-pace c = c.drain_at.ensures.pace (Some c.args.capacity)
