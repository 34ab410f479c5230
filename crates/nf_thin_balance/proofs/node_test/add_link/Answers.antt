use Rattle.std.proofs.Common.{◌≡◌, List, length, ap, ◌∙◌, arith}
use Rattle.nf_thin_balance.proofs.Common.{length-map, Hop, hop_of}
use Rattle.nf_thin_balance.proofs.Conserving.{link_read, end_test, bounds_still, bounds_idle, bounds_sum, bounds_difference}
use Rattle.nf_thin_balance.proofs.node_test.add_link.Goals as goal

pub bounds-hops-index : goal.bounds-hops-index
bounds-hops-index c =
    let count : length c.hops.result.now ≡ length c.args.net.now.net.links = ap (λ (l : List Hop). length l) c.hops.ensures.value ∙ length-map c.args.net.now.net.links hop_of in
    let index = c.index.ensures in
    let link = c.requires.link in
    omega arith

pub returns-then-leaves-enters : goal.returns-then-leaves-enters
returns-then-leaves-enters c =
    let f = link_read c.args.net.now.net c.hops.result.now c.args.link c.index.result c.index-hops-index.result c.hops.ensures.value c.index.ensures
    c.requires.link c.index-hops-index.is in
    bounds_still c.args.net.now.net c.args.ranges.now c.args.node c.args.link c.args.range.now f.0 f.1 c.requires.before
    c.eq-leaves.result c.eq-enters.result
    (end_test c.eq-leaves.result c.hop.inside.tail c.index-hops-index.result.tail (f.0).tail c.args.node c.eq-leaves.ensures (ap (λ (h : Hop). h.tail) c.hop.view_is) f.2)
    (end_test c.eq-enters.result c.hop.inside.head c.index-hops-index.result.head (f.0).head c.args.node c.eq-enters.ensures (ap (λ (h : Hop). h.head) c.hop.view_is) f.3)
    c.if-leaves-enters.true

pub returns-then-is_nothing : goal.returns-then-is_nothing
returns-then-is_nothing c =
    let f = link_read c.args.net.now.net c.hops.result.now c.args.link c.index.result c.index-hops-index.result c.hops.ensures.value c.index.ensures
    c.requires.link c.index-hops-index.is in
    bounds_idle c.args.net.now.net c.args.ranges.now c.args.node c.args.link c.args.range.now f.0 f.1 c.requires.before
    c.range_at-flow.result c.range_at-flow.ensures (c.is_nothing.ensures c.if-is_nothing.true)

pub returns-then-leaves : goal.returns-then-leaves
returns-then-leaves c =
    let f = link_read c.args.net.now.net c.hops.result.now c.args.link c.index.result c.index-hops-index.result c.hops.ensures.value c.index.ensures
    c.requires.link c.index-hops-index.is in
    bounds_sum c.args.net.now.net c.args.ranges.now c.args.node c.args.link c.args.range.now f.0 f.1 c.requires.before
    c.eq-leaves.result c.eq-enters.result
    (end_test c.eq-leaves.result c.hop.inside.tail c.index-hops-index.result.tail (f.0).tail c.args.node c.eq-leaves.ensures (ap (λ (h : Hop). h.tail) c.hop.view_is) f.2)
    (end_test c.eq-enters.result c.hop.inside.head c.index-hops-index.result.head (f.0).head c.args.node c.eq-enters.ensures (ap (λ (h : Hop). h.head) c.hop.view_is) f.3)
    c.if-leaves-enters.false c.range_at-flow.result c.sum.result c.range_at-flow.ensures c.if-leaves.true c.sum.ensures

pub returns : goal.returns
returns c =
    let f = link_read c.args.net.now.net c.hops.result.now c.args.link c.index.result c.index-hops-index.result c.hops.ensures.value c.index.ensures
    c.requires.link c.index-hops-index.is in
    bounds_difference c.args.net.now.net c.args.ranges.now c.args.node c.args.link c.args.range.now f.0 f.1 c.requires.before
    c.eq-leaves.result c.eq-enters.result
    (end_test c.eq-leaves.result c.hop.inside.tail c.index-hops-index.result.tail (f.0).tail c.args.node c.eq-leaves.ensures (ap (λ (h : Hop). h.tail) c.hop.view_is) f.2)
    (end_test c.eq-enters.result c.hop.inside.head c.index-hops-index.result.head (f.0).head c.args.node c.eq-enters.ensures (ap (λ (h : Hop). h.head) c.hop.view_is) f.3)
    c.if-leaves-enters.false c.range_at-flow.result c.difference.result c.range_at-flow.ensures c.if-leaves.false c.difference.ensures

pub range_at-flow-requires : goal.range_at-flow-requires
range_at-flow-requires c = let n = c.requires.ranges in let l = c.requires.link in omega arith
