use Rattle.std.proofs.Common.{◌≡◌, List, length, ap, sym, ◌∙◌, arith, slice_get}
use Rattle.nf_thin_balance.proofs.Common.{length-map, Hop, hop_of, length_set, Range}
use Rattle.nf_thin_balance.proofs.Conserving.{link_read}
use Rattle.nf_thin_balance.proofs.Balances.{test_same, test_other, each_looped, each_idle, each_more}
use Rattle.nf_thin_balance.proofs.node_test.add_to_ends.Goals as goal

pub bounds-hops-index : goal.bounds-hops-index
bounds-hops-index c =
    let count : length c.hops.result.now ≡ length c.args.net.now.net.links = ap (λ (l : List Hop). length l) c.hops.ensures.value ∙ length-map c.args.net.now.net.links hop_of in
    let index = c.index.ensures in
    let link = c.requires.link in
    omega arith

pub range_at-flow-requires : goal.range_at-flow-requires
range_at-flow-requires c = let n = c.requires.ranges in let l = c.requires.link in omega arith

pub returns-then-looped-clause-more : goal.returns-then-looped-clause-more
returns-then-looped-clause-more c =
    let f = link_read c.args.net.now.net c.hops.result.now c.args.link c.index.result c.index-hops-index.result c.hops.ensures.value c.index.ensures
    c.requires.link c.index-hops-index.is in
    each_looped c.args.net.now.net c.args.ranges.now c.args.nodes.now.items c.args.link f.0 f.1 c.requires.before
    ((f.2 ∙ ap (λ (h : Hop). h.tail) (sym c.hop.view_is)) ∙ (test_same c.eq-looped.result c.hop.inside.tail c.hop.inside.head c.eq-looped.ensures c.if-looped.true
    ∙ sym (f.3 ∙ ap (λ (h : Hop). h.head) (sym c.hop.view_is))))

pub returns-then-is_nothing-clause-more : goal.returns-then-is_nothing-clause-more
returns-then-is_nothing-clause-more c =
    let f = link_read c.args.net.now.net c.hops.result.now c.args.link c.index.result c.index-hops-index.result c.hops.ensures.value c.index.ensures
    c.requires.link c.index-hops-index.is in
    each_idle c.args.net.now.net c.args.ranges.now c.args.nodes.now.items c.args.link f.0 f.1 c.requires.before
    c.range_at-flow.result c.range_at-flow.ensures (c.is_nothing.ensures c.if-is_nothing.true)

pub surplus_at-sent-requires : goal.surplus_at-sent-requires
surplus_at-sent-requires c =
    let f = link_read c.args.net.now.net c.hops.result.now c.args.link c.index.result c.index-hops-index.result c.hops.ensures.value c.index.ensures
    c.requires.link c.index-hops-index.is in
    let is : (f.0).tail ≡ c.hop.inside.tail = f.2 ∙ ap (λ (h : Hop). h.tail) (sym c.hop.view_is) in
    let below = c.hops.ensures.named.network.tails c.args.link f.0 f.1 in
    let n : length c.deref.result.now ≡ c.args.net.now.net.nodes = ap (λ (l : List Range). length l) c.deref.ensures.value ∙ c.requires.nodes in
    omega arith

pub put_surplus-requires : goal.put_surplus-requires
put_surplus-requires c =
    let f = link_read c.args.net.now.net c.hops.result.now c.args.link c.index.result c.index-hops-index.result c.hops.ensures.value c.index.ensures
    c.requires.link c.index-hops-index.is in
    let is : (f.0).tail ≡ c.hop.inside.tail = f.2 ∙ ap (λ (h : Hop). h.tail) (sym c.hop.view_is) in
    let below = c.hops.ensures.named.network.tails c.args.link f.0 f.1 in
    let n = c.requires.nodes in
    omega arith

pub surplus_at-kept-requires : goal.surplus_at-kept-requires
surplus_at-kept-requires c =
    let f = link_read c.args.net.now.net c.hops.result.now c.args.link c.index.result c.index-hops-index.result c.hops.ensures.value c.index.ensures
    c.requires.link c.index-hops-index.is in
    let is : (f.0).head ≡ c.hop.inside.head = f.3 ∙ ap (λ (h : Hop). h.head) (sym c.hop.view_is) in
    let below = c.hops.ensures.named.network.heads c.args.link f.0 f.1 in
    let n : length c.deref-2.result.now ≡ c.args.net.now.net.nodes = ap (λ (l : List Range). length l) (c.deref-2.ensures.value ∙ c.put_surplus.ensures)
    ∙ (length_set c.args.nodes.now.items c.hop.inside.tail c.sum.result ∙ c.requires.nodes) in
    omega arith

pub put_surplus-requires-2 : goal.put_surplus-requires-2
put_surplus-requires-2 c =
    let f = link_read c.args.net.now.net c.hops.result.now c.args.link c.index.result c.index-hops-index.result c.hops.ensures.value c.index.ensures
    c.requires.link c.index-hops-index.is in
    let is : (f.0).head ≡ c.hop.inside.head = f.3 ∙ ap (λ (h : Hop). h.head) (sym c.hop.view_is) in
    let below = c.hops.ensures.named.network.heads c.args.link f.0 f.1 in
    let n : length c.put_surplus.new.nodes.items ≡ c.args.net.now.net.nodes = ap (λ (l : List Range). length l) c.put_surplus.ensures
    ∙ (length_set c.args.nodes.now.items c.hop.inside.tail c.sum.result ∙ c.requires.nodes) in
    omega arith

pub returns-clause-count : goal.returns-clause-count
returns-clause-count c = ap (λ (l : List Range). length l) c.put_surplus-2.ensures ∙ (length_set c.put_surplus.new.nodes.items c.hop.inside.head c.difference.result
    ∙ (ap (λ (l : List Range). length l) c.put_surplus.ensures ∙ (length_set c.args.nodes.now.items c.hop.inside.tail c.sum.result ∙ c.requires.nodes)))

pub returns-clause-more : goal.returns-clause-more
returns-clause-more c =
    let f = link_read c.args.net.now.net c.hops.result.now c.args.link c.index.result c.index-hops-index.result c.hops.ensures.value c.index.ensures
    c.requires.link c.index-hops-index.is in
    let tail_is : (f.0).tail ≡ c.hop.inside.tail = f.2 ∙ ap (λ (h : Hop). h.tail) (sym c.hop.view_is) in
    let head_is : (f.0).head ≡ c.hop.inside.head = f.3 ∙ ap (λ (h : Hop). h.head) (sym c.hop.view_is) in
    let tails = c.hops.ensures.named.network.tails c.args.link f.0 f.1 in
    let heads = c.hops.ensures.named.network.heads c.args.link f.0 f.1 in
    let n = c.requires.nodes in
    each_more c.args.net.now.net c.args.ranges.now c.args.nodes.now.items c.args.link f.0 f.1 c.requires.before c.range_at-flow.result c.range_at-flow.ensures
    c.hop.inside.tail c.hop.inside.head tail_is head_is (test_other c.eq-looped.result c.hop.inside.tail c.hop.inside.head c.eq-looped.ensures c.if-looped.false)
    c.surplus_at-sent.result c.sum.result c.surplus_at-kept.result c.difference.result c.put_surplus.new.nodes.items c.put_surplus-2.new.nodes.items
    (omega arith) (omega arith)
    (ap (λ (l : List Range). slice_get l c.hop.inside.tail) (sym c.deref.ensures.value) ∙ c.surplus_at-sent.ensures) c.sum.ensures c.put_surplus.ensures
    (ap (λ (l : List Range). slice_get l c.hop.inside.head) (sym c.deref-2.ensures.value) ∙ c.surplus_at-kept.ensures) c.difference.ensures c.put_surplus-2.ensures
