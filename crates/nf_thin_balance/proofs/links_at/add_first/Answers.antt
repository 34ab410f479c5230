use Rattle.std.proofs.Common.{◌≡◌, ℕ, ◌<◌, length, refl, sym, ap, ◌∙◌, arith, slice_set}
use Rattle.nf_thin_balance.proofs.Common.{slice_get_read, Hop}
use Rattle.nf_thin_balance.proofs.Conserving.{link_read}
use Rattle.nf_thin_balance.proofs.LinksAt.{one_added}
use Rattle.nf_thin_balance.proofs.links_at.add_first.Goals as goal

pub index-requires-2 : goal.index-requires-2
index-requires-2 c =
    let f = link_read c.args.net.now.net c.hops.result.now c.args.link c.index.result c.index-hops-index.result c.hops.ensures.value c.index.ensures
    c.requires.link c.index-hops-index.is in
    let is : (f.0).tail ≡ c.hop.inside.tail = f.2 ∙ ap (λ (h : Hop). h.tail) (sym c.hop.view_is) in
    let below = c.hops.ensures.named.network.tails c.args.link f.0 f.1 in
    let n = c.requires.later.nodes in
    let o = c.args.first.now.ok.0 in
    let t = c.index-tail.ensures in
    omega arith

pub index-requires-4 : goal.index-requires-4
index-requires-4 c =
    let f = link_read c.args.net.now.net c.hops.result.now c.args.link c.index.result c.index-hops-index.result c.hops.ensures.value c.index.ensures
    c.requires.link c.index-hops-index.is in
    let is : (f.0).head ≡ c.hop.inside.head = f.3 ∙ ap (λ (h : Hop). h.head) (sym c.hop.view_is) in
    let below = c.hops.ensures.named.network.heads c.args.link f.0 f.1 in
    let n = c.requires.later.nodes in
    let o = c.args.first.now.ok.0 in
    let t = c.index-head.ensures in
    omega arith

pub index_mut-requires-3 : goal.index_mut-requires-3
index_mut-requires-3 c =
    let f = link_read c.args.net.now.net c.hops.result.now c.args.link c.index.result c.index-hops-index.result c.hops.ensures.value c.index.ensures
    c.requires.link c.index-hops-index.is in
    let is : (f.0).tail ≡ c.hop.inside.tail = f.2 ∙ ap (λ (h : Hop). h.tail) (sym c.hop.view_is) in
    let below = c.hops.ensures.named.network.tails c.args.link f.0 f.1 in
    let n = c.requires.later.nodes in
    let t = c.index-tail.ensures in
    omega arith

pub index_mut-requires-4 : goal.index_mut-requires-4
index_mut-requires-4 c =
    let f = link_read c.args.net.now.net c.hops.result.now c.args.link c.index.result c.index-hops-index.result c.hops.ensures.value c.index.ensures
    c.requires.link c.index-hops-index.is in
    let is : (f.0).head ≡ c.hop.inside.head = f.3 ∙ ap (λ (h : Hop). h.head) (sym c.hop.view_is) in
    let below = c.hops.ensures.named.network.heads c.args.link f.0 f.1 in
    let n = c.requires.later.nodes in
    let o = c.args.first.now.ok.0 in
    let t = c.index-head.ensures in
    omega arith

pub returns : goal.returns
returns c =
    let f = link_read c.args.net.now.net c.hops.result.now c.args.link c.index.result c.index-hops-index.result c.hops.ensures.value c.index.ensures
    c.requires.link c.index-hops-index.is in
    let tail_is : (f.0).tail ≡ c.index-tail.result = f.2 ∙ (ap (λ (h : Hop). h.tail) (sym c.hop.view_is) ∙ sym c.index-tail.ensures) in
    let head_is : (f.0).head ≡ c.index-head.result = f.3 ∙ (ap (λ (h : Hop). h.head) (sym c.hop.view_is) ∙ sym c.index-head.ensures) in
    let tails = c.hops.ensures.named.network.tails c.args.link f.0 f.1 in
    let heads = c.hops.ensures.named.network.heads c.args.link f.0 f.1 in
    let n = c.requires.later.nodes in
    let first = c.args.first.now.items in
    let tail_there : c.index-tail.result < length first = omega arith in
    let head_there : c.index-head.result < length first = omega arith in
    one_added c.args.net.now.net c.args.link f.0 f.1 c.requires.link first c.args.at_tail.now.items c.args.at_head.now.items c.requires.later
    c.index-tail.result c.index-head.result tail_is head_is c.index-2.result.now c.index-4.result.now
    (slice_get_read first _ c.index-tail.result c.index-2.result.now refl tail_there c.index-2.ensures)
    (slice_get_read first _ c.index-head.result c.index-4.result.now refl head_there c.index-4.ensures)
    (omega arith) (omega arith) _ _ (slice_set first c.index-tail.result c.link.inside.0) _
    (ap (λ (k : ℕ). slice_set c.args.at_tail.now.items k c.index-2.result.now) c.index-3.ensures)
    (ap (λ (k : ℕ). slice_set c.args.at_head.now.items k c.index-4.result.now) c.index-5.ensures)
    (ap (slice_set first c.index-tail.result) c.link.view_is)
    (ap (slice_set (slice_set first c.index-tail.result c.link.inside.0) c.index-head.result) c.link.view_is)
