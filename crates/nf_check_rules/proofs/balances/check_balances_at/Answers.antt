use Rattle.std.proofs.Common.{◌<◌, sym, ◌∙◌, arith}
use Rattle.nf_check_rules.proofs.Common.{err_from_is_err_and, balance, in_view}
use Rattle.nf_check_rules.proofs.Looping.{but_ends, but_goes, but_skips, is_other, is_one}
use Rattle.nf_check_rules.proofs.balances.check_balances_at.Goals.{then-ne+in_ok-check_balance, else-ne}
use Rattle.nf_check_rules.proofs.balances.check_balances_at.Goals as goal

pub returns-in_err-check_balance : goal.returns-in_err-check_balance
returns-in_err-check_balance c =
    let p = err_from_is_err_and c.from_residual.result c.from_residual.ensures.1 in
    let inside : c.loop-number.number < c.args.worked.now.net.now.net.nodes = omega arith in
    let apart = is_other c.loop-number.number c.args.worked.now.net.now.net.sink c.sink.result c.sink.ensures.value (sym c.ne.ensures ∙ c.if-ne.true) in
    rw (p.1, p.2) (but_ends (in_view balance c.args.worked.now c.args.supplied.now.points) c.args.worked.now.net.now.net.sink
    c.args.worked.now.net.now.net.nodes c.loop-number.number c.loop-number.invariant inside apart c.in_err-check_balance.field-0.0
    c.in_err-check_balance.ensures)

pub loop-number-preserved : goal.loop-number-preserved
loop-number-preserved c =
    let inside : c.loop-number.number < c.args.worked.now.net.now.net.nodes = omega arith in
    elim c.if-ne.branch [
      | then-ne+in_ok-check_balance w ↦
          let apart = is_other c.loop-number.number c.args.worked.now.net.now.net.sink c.sink.result c.sink.ensures.value (sym c.ne.ensures ∙ w.if-ne.true) in
          but_goes (in_view balance c.args.worked.now c.args.supplied.now.points) c.args.worked.now.net.now.net.sink c.args.worked.now.net.now.net.nodes
          c.loop-number.number c.loop-number.invariant inside apart tt w.in_ok-check_balance.ensures
      | else-ne w ↦ but_skips (in_view balance c.args.worked.now c.args.supplied.now.points) c.args.worked.now.net.now.net.sink
          c.args.worked.now.net.now.net.nodes c.loop-number.number c.loop-number.invariant inside
          (is_one c.loop-number.number c.args.worked.now.net.now.net.sink c.sink.result c.sink.ensures.value (sym c.ne.ensures ∙ w.if-ne.false))
    ]
