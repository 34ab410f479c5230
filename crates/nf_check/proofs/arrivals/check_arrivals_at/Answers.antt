use Rattle.std.proofs.Common.{◌<◌, sym, ◌∙◌, arith}
use Rattle.nf_check.proofs.Common.{err_from_is_err_and, arrivals, in_view, but_ends, but_goes, but_skips, is_other, is_one}
use Rattle.nf_check.proofs.arrivals.check_arrivals_at.Goals.{then-ne+in_ok-check_arrival, else-ne}
use Rattle.nf_check.proofs.arrivals.check_arrivals_at.Goals as goal

pub returns-in_err-check_arrival-clause-tries : goal.returns-in_err-check_arrival-clause-tries
returns-in_err-check_arrival-clause-tries c =
    let p = err_from_is_err_and c.from_residual.result c.from_residual.ensures.1 in
    let inside : c.loop-number.number < c.args.worked.now.net.now.net.nodes = omega arith in
    let apart = is_other c.loop-number.number c.args.worked.now.net.now.net.source c.source.result c.source.ensures.value (sym c.ne.ensures ∙ c.if-ne.true) in
    rw (p.1, p.2) (but_ends (in_view arrivals c.args.worked.now) c.args.worked.now.net.now.net.source c.args.worked.now.net.now.net.nodes
    c.loop-number.number c.loop-number.invariant.left inside apart c.in_err-check_arrival.field-0.0 c.in_err-check_arrival.ensures.tries)

pub loop-number-preserved : goal.loop-number-preserved
loop-number-preserved c =
    let inside : c.loop-number.number < c.args.worked.now.net.now.net.nodes = omega arith in
    elim c.if-ne.branch [
      | then-ne+in_ok-check_arrival w ↦
          let apart = is_other c.loop-number.number c.args.worked.now.net.now.net.source c.source.result c.source.ensures.value (sym c.ne.ensures ∙ w.if-ne.true) in
          rw w.exits-is (record {
            left = but_goes (in_view arrivals c.args.worked.now) c.args.worked.now.net.now.net.source c.args.worked.now.net.now.net.nodes
                c.loop-number.number c.loop-number.invariant.left inside apart tt w.in_ok-check_arrival.ensures.tries;
            kept = w.in_ok-check_arrival.ensures.kept;
          })
      | else-ne w ↦ rw w.exits-is (record {
        left = but_skips (in_view arrivals c.args.worked.now) c.args.worked.now.net.now.net.source c.args.worked.now.net.now.net.nodes c.loop-number.number
            c.loop-number.invariant.left inside
            (is_one c.loop-number.number c.args.worked.now.net.now.net.source c.source.result c.source.ensures.value (sym c.ne.ensures ∙ w.if-ne.false));
        kept = c.loop-number.invariant.kept;
      })
    ]
