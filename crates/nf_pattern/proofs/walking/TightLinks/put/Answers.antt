use Rattle.std.proofs.Common.{Some, set, ap, ◌∙◌}
use Rattle.nf_pattern.proofs.Common.{length-set, Hop, IsHop}
use Rattle.nf_pattern.proofs.Each.{under_len}
use Rattle.nf_pattern.proofs.Entries.{hop_there}
use Rattle.nf_pattern.proofs.Steps.{read_last}
use Rattle.nf_pattern.proofs.Holding.{holds_tight}
use Rattle.nf_pattern.proofs.walking.TightLinks.put.Goals as goal

pub returns-clause-holds : goal.returns-clause-holds
returns-clause-holds c = λ pattern holds tight.
    let here : IsHop c.args.hops.now c.args.link c.index-hops-index.result =
    hop_there c.args.hops.now c.args.link c.index.result c.index-hops-index.result c.requires.link c.index.ensures c.index-hops-index.is in
    let at_tail = ap (λ (h : Hop). h.tail) c.hop.view_is in
    let at_head = ap (λ (h : Hop). h.head) c.hop.view_is in
    holds_tight c.args.hops.now pattern c.args.link c.args.self.now.last.items c.args.self.now.tails.items c.args.self.now.heads.items holds tight c.index-hops-index.result here
    c.index-8.result c.index-9.result (c.index-8.ensures ∙ at_tail) (c.index-9.ensures ∙ at_head)
    c.index-4.result c.index-7.result c.index-3.result.now c.index-6.result.now c.index-4.ensures c.index-7.ensures
    (read_last c.args.hops.now pattern c.args.link holds c.index-hops-index.result.tail c.index-2.result c.index-3.result.now
    (c.requires.below.tails c.args.link c.index-hops-index.result here) (c.index-2.ensures ∙ at_tail) c.index-3.ensures)
    (read_last c.args.hops.now pattern c.args.link holds c.index-hops-index.result.head c.index-5.result c.index-6.result.now
    (c.requires.below.heads c.args.link c.index-hops-index.result here) (c.index-5.ensures ∙ at_head) c.index-6.ensures)

pub index_mut-requires-4 : goal.index_mut-requires-4
index_mut-requires-4 c =
    let here : IsHop c.args.hops.now c.args.link c.index-hops-index.result =
    hop_there c.args.hops.now c.args.link c.index.result c.index-hops-index.result c.requires.link c.index.ensures c.index-hops-index.is in
    under_len c.args.self.now.last _ _ (c.index-9.ensures ∙ ap (λ (h : Hop). h.head) c.hop.view_is) (c.requires.below.heads c.args.link c.index-hops-index.result here)

pub index_mut-requires-3 : goal.index_mut-requires-3
index_mut-requires-3 c =
    let here : IsHop c.args.hops.now c.args.link c.index-hops-index.result =
    hop_there c.args.hops.now c.args.link c.index.result c.index-hops-index.result c.requires.link c.index.ensures c.index-hops-index.is in
    under_len c.args.self.now.last _ _ (c.index-8.ensures ∙ ap (λ (h : Hop). h.tail) c.hop.view_is) (c.requires.below.tails c.args.link c.index-hops-index.result here)

pub index-requires-6 : goal.index-requires-6
index-requires-6 c =
    let here : IsHop c.args.hops.now c.args.link c.index-hops-index.result =
    hop_there c.args.hops.now c.args.link c.index.result c.index-hops-index.result c.requires.link c.index.ensures c.index-hops-index.is in
    under_len c.args.self.now.last _ _ (c.index-5.ensures ∙ ap (λ (h : Hop). h.head) c.hop.view_is) (c.requires.below.heads c.args.link c.index-hops-index.result here)

pub index-requires-3 : goal.index-requires-3
index-requires-3 c =
    let here : IsHop c.args.hops.now c.args.link c.index-hops-index.result =
    hop_there c.args.hops.now c.args.link c.index.result c.index-hops-index.result c.requires.link c.index.ensures c.index-hops-index.is in
    under_len c.args.self.now.last _ _ (c.index-2.ensures ∙ ap (λ (h : Hop). h.tail) c.hop.view_is) (c.requires.below.tails c.args.link c.index-hops-index.result here)

pub returns-clause-nodes : goal.returns-clause-nodes
returns-clause-nodes c =
    length-set (set c.args.self.now.last.items c.index-8.result (Some c.args.link)) c.index-9.result (Some c.args.link)
    ∙ length-set c.args.self.now.last.items c.index-8.result (Some c.args.link)
