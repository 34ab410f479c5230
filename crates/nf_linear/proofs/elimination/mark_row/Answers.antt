use Rattle.std.proofs.Common.{ℕ, ◌<◌, length, subst, length-set, arith}
use Rattle.nf_linear.proofs.Common.{IsSubset}
use Rattle.nf_linear.proofs.Covering.{sets_grow, row_marked, set_got}
use Rattle.nf_linear.proofs.elimination.mark_row.Goals as goal

pub loop-at-init : goal.loop-at-init
loop-at-init g c = (λ column before free. c.next_some-at.ensures.zero column (omega arith) before, λ column i. omega arith, c.next_some-at.ensures.later.1)

pub loop-at-preserved : goal.loop-at-preserved
loop-at-preserved g c =
    let here : c.loop-at.at < length c.loop-at.columns = c.loop-at-test.true in
    let end = c.next_some-at-in-loop-at.ensures.later.1 in
    let long = length-set c.loop-at.columns c.loop-at.at c.put.new.self in (
      row_marked c.loop-at.columns c.loop-at.at c.args.number c.next_some-at-in-loop-at.result c.put.new.self c.args.row.now here c.put.ensures.put
          c.next_some-at-in-loop-at.ensures.zero c.loop-at.invariant.0,
      sets_grow c.args.columns.now c.loop-at.columns c.loop-at.at c.put.new.self here
          (subst (λ (word : ℕ). IsSubset word c.put.new.self) (set_got c.loop-at.columns c.loop-at.at c.index-columns-at.result here) c.put.ensures.kept)
          c.loop-at.invariant.1,
      omega arith,
    )
