use Rattle.std.proofs.Common.{◌∙◌, ℕ, Option, Some, refl, ap, sym, arith, subst, length, ◌<◌, rules}
use Rattle.nf_pattern.proofs.Common.{slice_get-get_or, Hop, IsHop}
use Rattle.nf_pattern.proofs.Entries.{hop_there, last_noted, last_is}
use Rattle.nf_pattern.proofs.entered.chain_link.Goals as goal

pub returns-clause-last : goal.returns-clause-last
returns-clause-last c =
    let here : IsHop c.args.hops.now c.args.link c.index-hops-link.result =
    hop_there c.args.hops.now c.args.link c.args.link c.index-hops-link.result c.requires.link refl c.index-hops-link.is in
    let at = c.index-2.ensures ∙ ap (λ (h : Hop). h.head) c.hop.view_is in
    last_noted c.args.hops.now c.args.link c.index-hops-link.result here c.index-2.result at c.args.last.now
    (let below = c.requires.below.heads c.args.link c.index-hops-link.result here in omega arith) c.requires.last

pub returns-clause-before : goal.returns-clause-before
returns-clause-before c =
    let here : IsHop c.args.hops.now c.args.link c.index-hops-link.result =
    hop_there c.args.hops.now c.args.link c.args.link c.index-hops-link.result c.requires.link refl c.index-hops-link.is in
    let at = c.index.ensures ∙ ap (λ (h : Hop). h.head) c.hop.view_is in
    last_is c.args.hops.now c.args.link c.index-hops-link.result here c.index.result at c.args.last.now c.index-last-index.result c.requires.last
    (slice_get-get_or c.args.last.now c.index.result c.index-last-index.result (let below = c.requires.below.heads c.args.link c.index-hops-link.result here in omega arith)
    ∙ ap (λ (o : Option ℕ). Some o) (sym c.index-last-index.is))

pub bounds-last-index : goal.bounds-last-index
bounds-last-index c =
    let here : IsHop c.args.hops.now c.args.link c.index-hops-link.result =
    hop_there c.args.hops.now c.args.link c.args.link c.index-hops-link.result c.requires.link refl c.index-hops-link.is in
    subst (λ (n : ℕ). n < length c.args.last.now) (sym (c.index.ensures ∙ ap (λ (h : Hop). h.head) c.hop.view_is)) (c.requires.below.heads c.args.link c.index-hops-link.result here)

pub bounds-last-index-2 : goal.bounds-last-index-2
bounds-last-index-2 c =
    let here : IsHop c.args.hops.now c.args.link c.index-hops-link.result =
    hop_there c.args.hops.now c.args.link c.args.link c.index-hops-link.result c.requires.link refl c.index-hops-link.is in
    subst (λ (n : ℕ). n < length c.args.last.now) (sym (c.index-2.ensures ∙ ap (λ (h : Hop). h.head) c.hop.view_is)) (c.requires.below.heads c.args.link c.index-hops-link.result here)

pub offset_bounds-last-index-2 : goal.offset_bounds-last-index-2
offset_bounds-last-index-2 c =
    let here : IsHop c.args.hops.now c.args.link c.index-hops-link.result =
    hop_there c.args.hops.now c.args.link c.args.link c.index-hops-link.result c.requires.link refl c.index-hops-link.is in
    let inside = subst (λ (n : ℕ). n < length c.args.last.now) (sym (c.index-2.ensures ∙ ap (λ (h : Hop). h.head) c.hop.view_is))
    (c.requires.below.heads c.args.link c.index-hops-link.result here) in search rules

pub offset_bounds-last-index : goal.offset_bounds-last-index
offset_bounds-last-index c =
    let here : IsHop c.args.hops.now c.args.link c.index-hops-link.result =
    hop_there c.args.hops.now c.args.link c.args.link c.index-hops-link.result c.requires.link refl c.index-hops-link.is in
    let inside = subst (λ (n : ℕ). n < length c.args.last.now) (sym (c.index.ensures ∙ ap (λ (h : Hop). h.head) c.hop.view_is))
    (c.requires.below.heads c.args.link c.index-hops-link.result here) in search rules
