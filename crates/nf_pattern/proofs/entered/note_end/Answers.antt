use Rattle.std.proofs.Common.{◌∙◌, ap, refl, arith, subst, length, ◌<◌, ℕ, sym, rules}
use Rattle.nf_pattern.proofs.Common.{Hop, IsHop}
use Rattle.nf_pattern.proofs.Entries.{hop_there, ends_kept, end_noted}
use Rattle.nf_pattern.proofs.entered.note_end.Goals as goal

pub returns-then-can_carry : goal.returns-then-can_carry
returns-then-can_carry c =
    let here : IsHop c.args.hops.now c.args.link c.index-hops-link.result =
    hop_there c.args.hops.now c.args.link c.args.link c.index-hops-link.result c.requires.link refl c.index-hops-link.is in
    let at = c.index.ensures ∙ ap (λ (h : Hop). h.head) c.hop.view_is in
    end_noted c.args.hops.now c.args.resetting.now c.args.base.now c.args.link c.if-can_carry.ensures c.index-hops-link.result here c.index.result at c.args.ends.now
    (let below = c.requires.below.heads c.args.link c.index-hops-link.result here in omega arith) c.requires.ends

pub returns-else-can_carry : goal.returns-else-can_carry
returns-else-can_carry c = ends_kept c.args.hops.now c.args.resetting.now c.args.base.now c.args.link c.args.ends.now c.requires.ends c.if-can_carry.ensures

pub bounds-ends-index : goal.bounds-ends-index
bounds-ends-index c =
    let here : IsHop c.args.hops.now c.args.link c.index-hops-link.result =
    hop_there c.args.hops.now c.args.link c.args.link c.index-hops-link.result c.requires.link refl c.index-hops-link.is in
    subst (λ (n : ℕ). n < length c.args.ends.now) (sym (c.index.ensures ∙ ap (λ (h : Hop). h.head) c.hop.view_is)) (c.requires.below.heads c.args.link c.index-hops-link.result here)

pub offset_bounds-ends-index : goal.offset_bounds-ends-index
offset_bounds-ends-index c =
    let here : IsHop c.args.hops.now c.args.link c.index-hops-link.result =
    hop_there c.args.hops.now c.args.link c.args.link c.index-hops-link.result c.requires.link refl c.index-hops-link.is in
    let inside = subst (λ (n : ℕ). n < length c.args.ends.now) (sym (c.index.ensures ∙ ap (λ (h : Hop). h.head) c.hop.view_is))
    (c.requires.below.heads c.args.link c.index-hops-link.result here) in search rules
