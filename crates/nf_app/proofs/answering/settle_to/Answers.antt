use Rattle.std.proofs.Common.{subst, inr, Option, Ok}
use Rattle.nf_app.proofs.Common.{err_from_is_err_and, given_of, SettlesAtStart}
use Rattle.nf_complete.specs.declared.settled.Settled.{Settled}
use Rattle.nf_app.proofs.SettleResult.{flows_refused, settling_halted, not_thin_given, settled_given, settled_counts}
use Rattle.nf_app.proofs.answering.settle_to.Goals as goal

pub returns-in_err-flows : goal.returns-in_err-flows
returns-in_err-flows c file name =
    let p = err_from_is_err_and c.from_residual.result c.from_residual.ensures.1 in
    rw (p.1, p.2) (flows_refused c.args.net.now file name c.args.text.now c.in_err-flows.field-0.0 c.in_err-flows.ensures.reads)

pub returns-in_err-settled : goal.returns-in_err-settled
returns-in_err-settled c file name =
    let p = err_from_is_err_and c.from_residual-in_err-settled.result c.from_residual-in_err-settled.ensures.1 in
    rw (p.1, p.2) (settling_halted c.args.net.now file name c.args.text.now
    (given_of c.in_ok-flows.flows) c.in_ok-flows.ensures.reads c.in_err-settled.field-0.0 c.in_err-settled.ensures)

pub returns-in-Some : goal.returns-in-Some
returns-in-Some c file name =
    let h = subst (λ (o : Option Settled). SettlesAtStart c.args.net.now.net (given_of c.in_ok-flows.flows) (Ok o)) c.in-Some.is c.in_ok-settled.ensures in (
      settled_given c.args.net.now file name c.args.text.now (given_of c.in_ok-flows.flows) c.in_ok-flows.ensures.reads c.in-Some.settled h,
      settled_counts c.args.net.now file name c.args.text.now (given_of c.in_ok-flows.flows) c.in_ok-flows.ensures.reads c.in-Some.settled h,
    )

pub returns : goal.returns
returns c file name =
    inr (not_thin_given c.args.net.now file name c.args.text.now (given_of c.in_ok-flows.flows) c.in_ok-flows.ensures.reads
    (subst (λ (o : Option Settled). SettlesAtStart c.args.net.now.net (given_of c.in_ok-flows.flows) (Ok o)) c.in-None.is c.in_ok-settled.ensures))
