use Rattle.std.proofs.Common.{ℕ, ◌+◌, ◌≤◌, List, ◌∷◌, [], length, length-append, sym, ap, subst, ◌∙◌, arith}
use Rattle.nf_quick_times.proofs.Common.{err_from_is_err_and, ℚ, passes_Q}
use Rattle.nf_quick_times.proofs.NodeByNode.{TimesOn, times_first, times_all, time_passes, times_more}
use Rattle.nf_quick_times.proofs.cut.node_times.Goals as goal

pub loop-node-init : goal.loop-node-init
loop-node-init c = record {
  times = times_first passes_Q c.args.time c.args.from_source.now c.args.from_sink.now c.in_ok-cut.cut.items c.in_ok-cut.ensures.items;
  count = ap (length {A = ℚ}) c.in_ok-cut.ensures.items;
}

pub returns-in_err-here-clause-list : goal.returns-in_err-here-clause-list
returns-in_err-here-clause-list c =
    let p = err_from_is_err_and c.from_residual-in_err-here.result c.from_residual-in_err-here.ensures.1 in
    rw (p.1, p.2) (time_passes passes_Q c.args.time c.args.from_source.now c.args.from_sink.now c.loop-node.cut.items c.loop-node.node c.loop-node.invariant.times
    c.index-from_source-node.result c.distance_at.result c.loop-node-test.true c.index-from_source-node.is c.distance_at.ensures c.in_err-here.field-0.0 c.in_err-here.ensures)

pub loop-node-preserved : goal.loop-node-preserved
loop-node-preserved c = record {
  times = subst (λ (l : List ℚ). TimesOn passes_Q c.args.time c.args.from_source.now c.args.from_sink.now l (c.loop-node.node + 1)) (sym c.in_ok-push.ensures.items)
      (times_more passes_Q c.args.time c.args.from_source.now c.args.from_sink.now c.loop-node.cut.items c.loop-node.node c.loop-node.invariant.times
      c.index-from_source-node.result c.distance_at.result c.loop-node-test.true c.index-from_source-node.is c.distance_at.ensures c.in_ok-here.here c.in_ok-here.ensures);
  count = ap (length {A = ℚ}) c.in_ok-push.ensures.items ∙ length-append c.loop-node.cut.items (c.in_ok-here.here ∷ []) ∙ ap (λ (n : ℕ). n + 1) c.loop-node.invariant.count;
}

pub returns-clause-list : goal.returns-clause-list
returns-clause-list c =
    let past : length c.args.from_source.now ≤ c.loop-node.node = omega arith in
    times_all passes_Q c.args.time c.args.from_source.now c.args.from_sink.now c.loop-node.cut.items c.loop-node.node c.loop-node.invariant.times past
