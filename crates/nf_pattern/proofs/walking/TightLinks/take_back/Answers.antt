use Rattle.std.proofs.Common.{ℕ, get_or, set, ap, ◌∙◌, length-set, arith}
use Rattle.nf_pattern.proofs.Common.{Hop, IsHop}
use Rattle.nf_pattern.proofs.Entries.{hop_there}
use Rattle.nf_pattern.proofs.Backing.{back_else, back_tight, tight_there, read_tails, read_heads}
use Rattle.nf_pattern.proofs.walking.TightLinks.take_back.Goals as goal

pub returns-then-is_last_at-clause-holds : goal.returns-then-is_last_at-clause-holds
returns-then-is_last_at-clause-holds c pattern chains =
    let here : IsHop c.args.hops.now c.args.link c.index-hops-index.result =
    hop_there c.args.hops.now c.args.link c.index.result c.index-hops-index.result c.requires.link c.index.ensures c.index-hops-index.is in
    let at_tail = ap (λ (h : Hop). h.tail) c.hop.view_is in
    let at_head = ap (λ (h : Hop). h.head) c.hop.view_is in
    let tight = tight_there c.args.hops.now pattern c.args.link c.args.self.now.last.items c.args.self.now.tails.items c.args.self.now.heads.items chains
    c.index-hops-index.result here c.hop.inside.tail at_tail c.if-is_last_at.ensures in
    back_tight c.args.hops.now pattern c.args.link c.args.self.now.last.items c.args.self.now.tails.items c.args.self.now.heads.items chains
    c.index-hops-index.result here c.index-then-is_last_at-3.result (c.index-then-is_last_at-3.ensures ∙ at_tail)
    c.index-then-is_last_at-6.result (c.index-then-is_last_at-6.ensures ∙ at_head) c.index-then-is_last_at-2.result.now c.index-then-is_last_at-5.result.now tight
    (read_tails c.args.hops.now pattern c.args.link c.args.self.now.last.items c.args.self.now.tails.items c.args.self.now.heads.items chains
    c.index-hops-index.result c.index-then-is_last_at-3.result c.index-then-is_last_at-2.result.now here tight c.requires.link
    (c.index-then-is_last_at-2.ensures ∙ ap (λ (k : ℕ). get_or c.args.self.now.tails.items k c.index-then-is_last_at-2.result.now)
    c.index-then-is_last_at.ensures) (c.index-then-is_last_at-3.ensures ∙ at_tail))
    (read_heads c.args.hops.now pattern c.args.link c.args.self.now.last.items c.args.self.now.tails.items c.args.self.now.heads.items chains
    c.index-hops-index.result c.index-then-is_last_at-6.result c.index-then-is_last_at-5.result.now here tight c.requires.link
    (c.index-then-is_last_at-5.ensures ∙ ap (λ (k : ℕ). get_or c.args.self.now.heads.items k c.index-then-is_last_at-5.result.now)
    c.index-then-is_last_at-4.ensures) (c.index-then-is_last_at-6.ensures ∙ at_head))

pub returns-else-is_last_at-clause-holds : goal.returns-else-is_last_at-clause-holds
returns-else-is_last_at-clause-holds c pattern chains =
    let here : IsHop c.args.hops.now c.args.link c.index-hops-index.result =
    hop_there c.args.hops.now c.args.link c.index.result c.index-hops-index.result c.requires.link c.index.ensures c.index-hops-index.is in
    back_else c.args.hops.now pattern c.args.link c.args.self.now.last.items c.args.self.now.tails.items c.args.self.now.heads.items chains
    c.index-hops-index.result here c.hop.inside.tail (ap (λ (h : Hop). h.tail) c.hop.view_is) c.if-is_last_at.ensures

pub bounds-hops-index : goal.bounds-hops-index
bounds-hops-index c = let at = c.index.ensures in let below = c.requires.link in omega arith

pub is_last_at-requires : goal.is_last_at-requires
is_last_at-requires c =
    let here : IsHop c.args.hops.now c.args.link c.index-hops-index.result =
    hop_there c.args.hops.now c.args.link c.index.result c.index-hops-index.result c.requires.link c.index.ensures c.index-hops-index.is in
    let below = c.requires.below.tails c.args.link c.index-hops-index.result here in
    let at_tail = ap (λ (h : Hop). h.tail) c.hop.view_is in
    omega arith

pub index-requires-then-is_last_at-2 : goal.index-requires-then-is_last_at-2
index-requires-then-is_last_at-2 c = let at = c.index-then-is_last_at.ensures in let below = c.requires.link in let count = c.requires.tails in omega arith

pub index_mut-requires : goal.index_mut-requires
index_mut-requires c =
    let here : IsHop c.args.hops.now c.args.link c.index-hops-index.result =
    hop_there c.args.hops.now c.args.link c.index.result c.index-hops-index.result c.requires.link c.index.ensures c.index-hops-index.is in
    let below = c.requires.below.tails c.args.link c.index-hops-index.result here in
    let at = c.index-then-is_last_at-3.ensures ∙ ap (λ (h : Hop). h.tail) c.hop.view_is in
    omega arith

pub index-requires-then-is_last_at-5 : goal.index-requires-then-is_last_at-5
index-requires-then-is_last_at-5 c = let at = c.index-then-is_last_at-4.ensures in let below = c.requires.link in let count = c.requires.heads in omega arith

pub index_mut-requires-then-is_last_at : goal.index_mut-requires-then-is_last_at
index_mut-requires-then-is_last_at c =
    let here : IsHop c.args.hops.now c.args.link c.index-hops-index.result =
    hop_there c.args.hops.now c.args.link c.index.result c.index-hops-index.result c.requires.link c.index.ensures c.index-hops-index.is in
    let below = c.requires.below.heads c.args.link c.index-hops-index.result here in
    let at = c.index-then-is_last_at-6.ensures ∙ ap (λ (h : Hop). h.head) c.hop.view_is in
    omega arith

pub returns-then-is_last_at-clause-nodes : goal.returns-then-is_last_at-clause-nodes
returns-then-is_last_at-clause-nodes c =
    length-set (set c.args.self.now.last.items c.index-then-is_last_at-3.result c.index-then-is_last_at-2.result.now) c.index-then-is_last_at-6.result
    c.index-then-is_last_at-5.result.now
    ∙ length-set c.args.self.now.last.items c.index-then-is_last_at-3.result c.index-then-is_last_at-2.result.now
