use Rattle.std.proofs.Common.{[], ◌∷◌, sym, Ok}
use Rattle.nf_load.proofs.Common.{err_from_is_err_and, ℚ, 0ℚ, Load, passes_Q, checked_line, after_err, after_ok}
use Rattle.nf_load.proofs.waiting.drain_at.Goals as goal

pub returns-in_err-amount-clause-list : goal.returns-in_err-amount-clause-list
returns-in_err-amount-clause-list c = λ capacity rate.
    let p = err_from_is_err_and c.from_residual.result c.from_residual.ensures.1 in
    rw (p.1, p.2) (sym (after_err Load (checked_line passes_Q (c.args.before.now.time, c.args.before.now.amount) c.args.end.now c.args.time) _
    c.in_err-amount.field-0.0 (sym c.in_err-amount.ensures)))

pub returns-clause-list : goal.returns-clause-list
returns-clause-list c = λ capacity rate.
    rw (c.zero.ensures, c.zero-2.ensures) (sym (after_ok Load (checked_line passes_Q (c.args.before.now.time, c.args.before.now.amount) c.args.end.now c.args.time)
    (λ (amount : ℚ). Ok (record { time = c.args.time; amount = amount; queue = 0ℚ } ∷ record {
      time = c.args.end.now.0;
      amount = c.args.end.now.1;
      queue =
          0ℚ;
    } ∷ [])) c.in_ok-amount.amount (sym c.in_ok-amount.ensures)))
