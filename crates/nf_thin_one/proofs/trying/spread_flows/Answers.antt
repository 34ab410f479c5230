use Rattle.std.proofs.Common.{List, take, refl, sym, subst, ◌+◌, arith}
use Rattle.nf_thin_one.proofs.Common.{slice_get_read, ℚ}
use Rattle.nf_thin_one.proofs.Spreading.{AreFlows, has_value, active_more, inactive_more}
use Rattle.nf_thin_one.proofs.Slices.{take_more}
use Rattle.nf_thin_one.proofs.trying.spread_flows.Goals.{then-active, else-active}
use Rattle.nf_thin_one.proofs.trying.spread_flows.Goals as goal

pub bounds-values-next : goal.bounds-values-next
bounds-values-next c =
    has_value c.args.sets.now.active c.args.values.now c.args.net.now.net.nodes
    (take c.loop-e.e c.loop-e.flows) c.loop-e.e c.loop-e.next c.loop-e.invariant c.if-active.ensures.flag

pub loop-e-preserved : goal.loop-e-preserved
loop-e-preserved c = elim c.if-active.branch [
  | then-active w ↦ rw (w.flows-is, w.next-is) (subst (λ (l : List ℚ). AreFlows c.args.sets.now.active c.args.values.now c.args.net.now.net.nodes l (c.loop-e.e + 1) (c.loop-e.next + 1))
      (sym (take_more c.loop-e.flows c.loop-e.e w.index-values-next.result (omega arith)))
      (active_more c.args.sets.now.active c.args.values.now c.args.net.now.net.nodes (take c.loop-e.e c.loop-e.flows) c.loop-e.e c.loop-e.next c.loop-e.invariant
      w.index-values-next.result _ _ refl refl w.if-active.ensures.flag
      (slice_get_read c.args.values.now _ c.loop-e.next w.index-values-next.result refl
      (has_value c.args.sets.now.active c.args.values.now c.args.net.now.net.nodes
      (take c.loop-e.e c.loop-e.flows) c.loop-e.e c.loop-e.next c.loop-e.invariant w.if-active.ensures.flag) w.index-values-next.is)))
  | else-active w ↦ rw (w.flows-is, w.next-is, w.zero.ensures) (subst (λ (l : List ℚ). AreFlows c.args.sets.now.active c.args.values.now
      c.args.net.now.net.nodes l (c.loop-e.e + 1) c.loop-e.next)
      (sym (take_more c.loop-e.flows c.loop-e.e _ (omega arith)))
      (inactive_more c.args.sets.now.active c.args.values.now c.args.net.now.net.nodes (take c.loop-e.e c.loop-e.flows) c.loop-e.e c.loop-e.next c.loop-e.invariant
      _ refl w.if-active.ensures.flag))
]
