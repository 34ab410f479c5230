use Rattle.std.proofs.Common.{◌≡◌, List, length, ap, ◌∙◌, arith}
use Rattle.nf_thin_balance.proofs.Common.{length-map, Hop, hop_of, scaled_flow}
use Rattle.nf_thin_balance.proofs.Conserving.{link_read, end_test, one_still, one_sum, one_difference}
use Rattle.nf_thin_balance.proofs.stated.with_link.Goals as goal

pub bounds-hops-index : goal.bounds-hops-index
bounds-hops-index c =
    let count : length c.hops.result.now ≡ length c.args.stated.now.net.now.net.links = ap (λ (l : List Hop). length l) c.hops.ensures.value
    ∙ length-map c.args.stated.now.net.now.net.links hop_of in
    let index = c.index.ensures in
    let link = c.requires.link in
    omega arith

pub returns-then-leaves-enters : goal.returns-then-leaves-enters
returns-then-leaves-enters c scale rate flows can within =
    let f = link_read c.args.stated.now.net.now.net c.hops.result.now c.args.link c.index.result c.index-hops-index.result c.hops.ensures.value
    c.index.ensures c.requires.link c.index-hops-index.is in
    one_still c.args.stated.now.net.now.net (scaled_flow scale flows) c.args.node c.args.link c.args.range f.0 f.1 within c.eq-leaves.result c.eq-enters.result
    (end_test c.eq-leaves.result c.hop.inside.tail c.index-hops-index.result.tail (f.0).tail c.args.node c.eq-leaves.ensures (ap (λ (h : Hop). h.tail) c.hop.view_is) f.2)
    (end_test c.eq-enters.result c.hop.inside.head c.index-hops-index.result.head (f.0).head c.args.node c.eq-enters.ensures (ap (λ (h : Hop). h.head) c.hop.view_is) f.3)
    c.if-leaves-enters.true

pub returns-then-leaves : goal.returns-then-leaves
returns-then-leaves c scale rate flows can within =
    let f = link_read c.args.stated.now.net.now.net c.hops.result.now c.args.link c.index.result c.index-hops-index.result c.hops.ensures.value
    c.index.ensures c.requires.link c.index-hops-index.is in
    one_sum c.args.stated.now.net.now.net (scaled_flow scale flows) c.args.node c.args.link c.args.range f.0 f.1 within c.eq-leaves.result c.eq-enters.result
    (end_test c.eq-leaves.result c.hop.inside.tail c.index-hops-index.result.tail (f.0).tail c.args.node c.eq-leaves.ensures (ap (λ (h : Hop). h.tail) c.hop.view_is) f.2)
    (end_test c.eq-enters.result c.hop.inside.head c.index-hops-index.result.head (f.0).head c.args.node c.eq-enters.ensures (ap (λ (h : Hop). h.head) c.hop.view_is) f.3)
    c.if-leaves-enters.false c.range_of-flow.result c.sum.result (c.range_of-flow.ensures scale rate flows can) c.if-leaves.true c.sum.ensures

pub returns-else-leaves : goal.returns-else-leaves
returns-else-leaves c scale rate flows can within =
    let f = link_read c.args.stated.now.net.now.net c.hops.result.now c.args.link c.index.result c.index-hops-index.result c.hops.ensures.value
    c.index.ensures c.requires.link c.index-hops-index.is in
    one_difference c.args.stated.now.net.now.net (scaled_flow scale flows) c.args.node c.args.link c.args.range f.0 f.1 within c.eq-leaves.result c.eq-enters.result
    (end_test c.eq-leaves.result c.hop.inside.tail c.index-hops-index.result.tail (f.0).tail c.args.node c.eq-leaves.ensures (ap (λ (h : Hop). h.tail) c.hop.view_is) f.2)
    (end_test c.eq-enters.result c.hop.inside.head c.index-hops-index.result.head (f.0).head c.args.node c.eq-enters.ensures (ap (λ (h : Hop). h.head) c.hop.view_is) f.3)
    c.if-leaves-enters.false c.range_of-flow.result c.difference.result (c.range_of-flow.ensures scale rate flows can) c.if-leaves.false c.difference.ensures
