use Rattle.std.proofs.Common.{◌≡◌, ◌∙◌, Bool, ap, sym, subst, length, ◌<◌, ℕ, suc, refl, Some, None, arith, MatchBool, slice_get}
use Rattle.nf_pattern.proofs.Common.{slice_get-get_or, Hop, IsHop}
use Rattle.nf_pattern.proofs.Entries.{hop_there}
use Rattle.nf_pattern.proofs.Sparing.{sole_told}
use Rattle.nf_pattern.proofs.sole.is_sole.Goals as goal

pub is_lost_at-requires-clause-node : goal.is_lost_at-requires-clause-node
is_lost_at-requires-clause-node c =
    let here : IsHop c.args.hops.now c.args.link c.index-hops-link.result =
    hop_there c.args.hops.now c.args.link c.args.link c.index-hops-link.result c.requires.link refl c.index-hops-link.is in
    subst (λ (n : ℕ). n < length c.args.before.now) (sym (c.index.ensures ∙ ap (λ (h : Hop). h.head) c.hop.view_is))
    (c.requires.below_before.heads c.args.link c.index-hops-link.result here)

pub is_end-requires : goal.is_end-requires
is_end-requires c =
    let here : IsHop c.args.hops.now c.args.link c.index-hops-link.result =
    hop_there c.args.hops.now c.args.link c.args.link c.index-hops-link.result c.requires.link refl c.index-hops-link.is in
    subst (λ (n : ℕ). n < length c.args.all.now) (sym (ap (λ (h : Hop). h.head) c.hop.view_is)) (c.requires.below_all.heads c.args.link c.index-hops-link.result here)

pub returns : goal.returns
returns c flagged resetting before all =
    let here : IsHop c.args.hops.now c.args.link c.index-hops-link.result =
    hop_there c.args.hops.now c.args.link c.args.link c.index-hops-link.result c.requires.link refl c.index-hops-link.is in
    let last = subst (λ (t : Bool). MatchBool t (slice_get c.args.all.now c.hop.inside.head ≡ Some (suc c.args.link))
    (slice_get c.args.all.now c.hop.inside.head ≡ Some (suc c.args.link) → ⊥)) flagged c.is_end.ensures in
    sole_told c.args.hops.now resetting c.args.base.now c.args.source c.args.link c.index-hops-link.result here c.index.result (c.index.ensures ∙ ap (λ (h : Hop). h.head) c.hop.view_is)
    _ c.if-is_none.ensures (slice_get-get_or c.args.base.now c.args.link None (omega arith))
    c.args.before.now c.args.all.now c.if-not-is_lost_at.ensures.0 c.if-not-is_lost_at.ensures.1
    (ap (λ (k : ℕ). slice_get c.args.all.now k) c.index.ensures ∙ last) before all
