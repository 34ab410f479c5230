use Rattle.std.proofs.Common.{◌≡◌, ◌<◌, ℕ, List, Bool, length, set, replicate, true, false, sym, ap, subst, ◌∙◌, rules}
use Rattle.nf_graph.proofs.Common.{length-replicate, Has, Leaves, IsClosed}
use Rattle.nf_graph.proofs.Flags.{free, Has-replicate}
use Rattle.nf_graph.proofs.Reaching.{Leaves-below, walked_more, fewer_free, reached_all, walked_first}
use Rattle.nf_graph.proofs.reach.reached.Goals as goal

pub loop-node-smaller : goal.loop-node-smaller
loop-node-smaller c =
    let l : Leaves c.args.hops.now c.loop-node.flags.items c.in-Some.node = subst (λ (f : List Bool). Leaves c.args.hops.now f c.in-Some.node) c.deref.ensures.value c.in-Some.ensures in
    subst (λ (i : ℕ). free (set c.loop-node.flags.items i true) < free c.loop-node.flags.items) (sym c.index-in-Some.ensures)
    (fewer_free c.loop-node.flags.items c.in-Some.node (subst (λ (n : ℕ). c.in-Some.node < n) (sym c.loop-node.invariant.count)
    (Leaves-below _ _ _ _ c.requires.ends l)) l.free)

pub loop-node-preserved : goal.loop-node-preserved
loop-node-preserved c =
    let l : Leaves c.args.hops.now c.loop-node.flags.items c.in-Some.node = subst (λ (f : List Bool). Leaves c.args.hops.now f c.in-Some.node) c.deref.ensures.value c.in-Some.ensures in
    walked_more c.args.nodes c.args.hops.now c.args.from c.loop-node.flags.items c.in-Some.node c.index-in-Some.result c.index-in-Some.ensures l c.loop-node.invariant

pub returns : goal.returns
returns c =
    reached_all c.args.nodes c.args.hops.now c.args.from c.loop-node.flags.items c.loop-node.invariant
    (subst (λ (f : List Bool). IsClosed c.args.hops.now f) c.deref.ensures.value c.in_default.ensures)

pub loop-node-init : goal.loop-node-init
loop-node-init c =
    let none : c.in_ok-flags.flags.items ≡ replicate c.args.nodes false = c.in_ok-flags.ensures.items_if_clones_equal (λ y e. search rules) in
    walked_first c.args.nodes c.args.hops.now c.args.from c.index.result c.in_ok-flags.flags.items (ap length none ∙ length-replicate c.args.nodes false)
    (λ v h. Has-replicate c.args.nodes v (subst (λ (f : List Bool). Has f v) none h)) c.requires.from c.index.ensures

pub index_mut-requires-in-Some : goal.index_mut-requires-in-Some
index_mut-requires-in-Some c =
    let l : Leaves c.args.hops.now c.loop-node.flags.items c.in-Some.node = subst (λ (f : List Bool). Leaves c.args.hops.now f c.in-Some.node) c.deref.ensures.value c.in-Some.ensures in
    let below = subst (λ (n : ℕ). c.in-Some.node < n) (sym c.loop-node.invariant.count) (Leaves-below _ _ _ _ c.requires.ends l) in
    subst (λ (n : ℕ). c.index-in-Some.result < n) (sym c.loop-node.flags.ok.0) (subst (λ (i : ℕ). i < length c.loop-node.flags.items) (sym c.index-in-Some.ensures) below)
