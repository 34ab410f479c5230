use Rattle.std.proofs.Common.{◌≡◌, refl, inl, None}
use Rattle.nf_app.proofs.Common.{err_from_is_err_and, ℚ, 0ℚ, ◌≤ℚ◌, passes_Q, Equilibrium, flow_until, TailGrows, forever_in}
use Rattle.nf_app.proofs.ForeverResult.{stop_seen, tail_seen, forever_short, forever_ends}
use Rattle.nf_app.proofs.answering.solve_on.Goals as goal

pub returns-in_err-forever : goal.returns-in_err-forever
returns-in_err-forever c file text =
    let p = err_from_is_err_and c.from_residual.result c.from_residual.ensures.1 in
    rw (p.1, p.2) (inl refl)

pub returns : goal.returns
returns c file text =
    let f = forever_in c.in_ok-forever.forever in
    let e = c.in_ok-forever.ensures in (
      record {
        forever = f;
        is = refl;
        run = e.run;
        equilibrium = e.equilibrium;
        short = forever_short passes_Q c.args.net.now.net c.recall.ensures.network c.args.budgets.phases c.args.budgets.patterns f e.run;
        ends = forever_ends passes_Q c.args.net.now.net c.recall.ensures.network c.args.budgets.phases c.args.budgets.patterns f e.run;
        tail = stop_seen c.in_ok-forever.forever.tail (f.stop ≡ None) e.stop;
        grows = tail_seen (TailGrows c.args.net.now.net f.flow) c.in_ok-forever.forever.tail e.grows;
        goes_on = tail_seen (λ tail. (until : ℚ) → 0ℚ ≤ℚ until → Equilibrium c.args.net.now.net (flow_until c.args.net.now.net f.flow tail until)) c.in_ok-forever.forever.tail e.tail;
      },
      e.form,
    )
