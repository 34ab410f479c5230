use Rattle.std.proofs.Common.{◌≡◌, ◌<◌, ℕ, List, length, sym, ap, subst, ◌∙◌, arith}
use Rattle.nf_thin_balance.proofs.Common.{length-map, Hop, hop_of}
use Rattle.nf_thin_balance.proofs.Conserving.{link_read}
use Rattle.nf_thin_balance.proofs.leaves.other_end.Goals as goal

pub bounds-hops-index : goal.bounds-hops-index
bounds-hops-index c =
    let count : length c.hops.result.now ≡ length c.args.net.now.net.links = ap (λ (l : List Hop). length l) c.hops.ensures.value ∙ length-map c.args.net.now.net.links hop_of in
    let index = c.index.ensures in
    let link = c.requires.link in
    omega arith

pub returns-then-eq : goal.returns-then-eq
returns-then-eq c =
    let f = link_read c.args.net.now.net c.hops.result.now c.args.link c.index.result c.index-hops-index.result c.hops.ensures.value c.index.ensures
    c.requires.link c.index-hops-index.is in
    subst (λ (v : ℕ). v < c.args.net.now.net.nodes) (f.3 ∙ ap (λ (h : Hop). h.head) (sym c.hop.view_is)) (c.hops.ensures.named.network.heads c.args.link f.0 f.1)

pub returns-else-eq : goal.returns-else-eq
returns-else-eq c =
    let f = link_read c.args.net.now.net c.hops.result.now c.args.link c.index.result c.index-hops-index.result c.hops.ensures.value c.index.ensures
    c.requires.link c.index-hops-index.is in
    subst (λ (v : ℕ). v < c.args.net.now.net.nodes) (f.2 ∙ ap (λ (h : Hop). h.tail) (sym c.hop.view_is)) (c.hops.ensures.named.network.tails c.args.link f.0 f.1)
