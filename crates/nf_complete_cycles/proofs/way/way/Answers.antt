use Rattle.std.proofs.Common.{List, Bool, ℕ, ◌≡◌, ◌<◌, ◌∙◌, length, set, true, false, sym, ap, subst, replicate, arith}
use Rattle.nf_complete_cycles.proofs.Common.{slice_get_within, length-replicate, IfOk-from_err, AllByRecursion, Has, AreBelow, Has-replicate, free}
use Rattle.nf_complete_cycles.proofs.Common.{not_Has_from_place, Has_from_place, StepsOut, step_end, NoneStepsOut, way_back, IsWay}
use Rattle.nf_graph.proofs.Reaching.{fewer_free}
use Rattle.nf_complete_cycles.proofs.Growing.{IsGrown, grown_first, out_below, grown_more, out_free, way_found, apart_found, tree_below}
use Rattle.nf_complete_cycles.proofs.way.way.Goals as goal

pub returns-in_err-flags : goal.returns-in_err-flags
returns-in_err-flags c = IfOk-from_err c.from_residual.result _ c.from_residual.ensures.0

pub index_mut-requires : goal.index_mut-requires
index_mut-requires c = let n = c.in_ok-flags.ensures.len in let f = c.requires.from in let i = c.index.ensures in omega arith

pub loop-step-init : goal.loop-step-init
loop-step-init c =
    let start : c.in_ok-flags.flags.items ≡ replicate c.args.nodes false = c.in_ok-flags.ensures.items_if_clones_equal (λ y e. e) in
    subst (λ (t : List (ℕ × Bool)). IsGrown c.args.hops.now c.args.chosen.now c.args.from c.args.nodes
    (set c.in_ok-flags.flags.items c.index.result true) t) (sym c.new-tree.ensures.items)
    (grown_first c.args.hops.now c.args.chosen.now c.args.from c.args.nodes c.index.result c.in_ok-flags.flags.items (ap length start ∙ length-replicate c.args.nodes false)
    (λ v h. Has-replicate c.args.nodes v (subst (λ (f : List Bool). Has f v) start h)) c.requires.from c.index.ensures)

pub next_step-requires-clause-ends : goal.next_step-requires-clause-ends
next_step-requires-clause-ends c = subst (λ (n : ℕ). AreBelow n c.args.hops.now) (sym (ap length c.deref.ensures.value ∙ c.loop-step.invariant.count)) c.requires.ends

pub next_step-requires-clause-count : goal.next_step-requires-clause-count
next_step-requires-clause-count c = c.requires.count

pub next_step-requires-clause-fewer : goal.next_step-requires-clause-fewer
next_step-requires-clause-fewer c = c.requires.fewer

pub end_of-node-requires : goal.end_of-node-requires
end_of-node-requires c = slice_get_within c.args.hops.now c.in-Some.step.0 c.in-Some.ensures.hop c.in-Some.ensures.is_hop

pub index_mut-requires-in-Some : goal.index_mut-requires-in-Some
index_mut-requires-in-Some c =
    let o : StepsOut c.args.hops.now c.args.chosen.now c.loop-step.flags.items c.in-Some.step =
    subst (λ (f : List Bool). StepsOut c.args.hops.now c.args.chosen.now f c.in-Some.step) c.deref.ensures.value c.in-Some.ensures in
    let e : c.index-in-Some.result ≡ step_end c.args.hops.now c.in-Some.step = c.index-in-Some.ensures ∙ c.end_of-node.ensures in
    let below : step_end c.args.hops.now c.in-Some.step < c.args.nodes = out_below c.args.hops.now c.args.chosen.now c.args.from c.args.nodes
    c.loop-step.flags.items c.in-Some.step c.requires.ends o in
    let n = c.loop-step.invariant.count in omega arith

pub returns-in_err-insert : goal.returns-in_err-insert
returns-in_err-insert c = IfOk-from_err c.from_residual-in_err-insert.result _ c.from_residual-in_err-insert.ensures.0

pub index-requires-3 : goal.index-requires-3
index-requires-3 c = let n = c.loop-step.invariant.count in let t = c.requires.to in let i = c.index-2.ensures in omega arith

pub returns-in_err-back : goal.returns-in_err-back
returns-in_err-back c = IfOk-from_err c.from_residual-in_err-back.result _ c.from_residual-in_err-back.ensures.0

pub loop-step-smaller : goal.loop-step-smaller
loop-step-smaller c =
    let o : StepsOut c.args.hops.now c.args.chosen.now c.loop-step.flags.items c.in-Some.step =
    subst (λ (f : List Bool). StepsOut c.args.hops.now c.args.chosen.now f c.in-Some.step) c.deref.ensures.value c.in-Some.ensures in
    let e : c.index-in-Some.result ≡ step_end c.args.hops.now c.in-Some.step = c.index-in-Some.ensures ∙ c.end_of-node.ensures in
    subst (λ (i : ℕ). free (set c.loop-step.flags.items i true) < free c.loop-step.flags.items) (sym e)
    (fewer_free c.loop-step.flags.items (step_end c.args.hops.now c.in-Some.step)
    (subst (λ (n : ℕ). step_end c.args.hops.now c.in-Some.step < n) (sym c.loop-step.invariant.count)
    (out_below c.args.hops.now c.args.chosen.now c.args.from c.args.nodes c.loop-step.flags.items c.in-Some.step c.requires.ends o))
    (out_free c.args.hops.now c.args.chosen.now c.args.from c.loop-step.flags.items c.in-Some.step o))

pub loop-step-preserved : goal.loop-step-preserved
loop-step-preserved c =
    let o : StepsOut c.args.hops.now c.args.chosen.now c.loop-step.flags.items c.in-Some.step =
    subst (λ (f : List Bool). StepsOut c.args.hops.now c.args.chosen.now f c.in-Some.step) c.deref.ensures.value c.in-Some.ensures in
    let e : c.index-in-Some.result ≡ step_end c.args.hops.now c.in-Some.step = c.index-in-Some.ensures ∙ c.end_of-node.ensures in
    subst (λ (t : List (ℕ × Bool)). IsGrown c.args.hops.now c.args.chosen.now c.args.from c.args.nodes
    (set c.loop-step.flags.items c.index-in-Some.result true) t) (sym c.in_ok-insert.ensures.items)
    (grown_more c.args.hops.now c.args.chosen.now c.args.from c.args.nodes c.index-in-Some.result c.loop-step.flags.items c.loop-step.tree.items c.in-Some.step c.loop-step.invariant o e
    (subst (λ (i : ℕ). i < c.args.nodes) (sym e) (out_below c.args.hops.now c.args.chosen.now c.args.from c.args.nodes c.loop-step.flags.items c.in-Some.step c.requires.ends o)))

pub returns-then-not-index : goal.returns-then-not-index
returns-then-not-index c = apart_found c.args.hops.now c.args.chosen.now c.args.from c.args.nodes c.args.to c.loop-step.flags.items c.loop-step.tree.items c.loop-step.invariant
    (subst (λ (f : List Bool). NoneStepsOut c.args.hops.now c.args.chosen.now f) c.deref.ensures.value c.in_default.ensures)
    (not_Has_from_place c.loop-step.flags.items c.index-2.result c.args.to c.index-3.result.now c.if-not-index.true c.index-3.ensures c.index-2.ensures
    (let n = c.loop-step.invariant.count in let t = c.requires.to in omega arith))

pub trace-requires : goal.trace-requires
trace-requires c = subst (λ (t : List (ℕ × Bool)). AllByRecursion (λ (step : ℕ × Bool). step.0 < length c.args.hops.now) t) (sym c.deref-2.ensures.value)
    (tree_below c.args.hops.now c.args.chosen.now c.args.from c.loop-step.tree.items c.loop-step.invariant.tree_is)

pub returns : goal.returns
returns c =
    let h : Has c.loop-step.flags.items c.args.to = Has_from_place c.loop-step.flags.items c.index-2.result c.args.to c.index-3.result.now
    c.if-not-index.false c.index-3.ensures c.index-2.ensures (let n = c.loop-step.invariant.count in let t = c.requires.to in omega arith) in
    subst (λ (s : List (ℕ × Bool)). IsWay c.args.hops.now c.args.chosen.now c.args.from c.args.to s)
    (sym (c.in_ok-back.ensures ∙ ap (λ (t : List (ℕ × Bool)). way_back c.args.hops.now t c.args.to) c.deref-2.ensures.value))
    (way_found c.args.hops.now c.args.chosen.now c.args.from c.args.nodes c.args.to c.loop-step.flags.items c.loop-step.tree.items c.loop-step.invariant h)
