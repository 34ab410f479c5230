use Rattle.std.proofs.Common.{◌≡◌, ℕ, ap, sym, subst, ◌∙◌, arith}
use Rattle.nf_complete_cycles.proofs.Common.{Has, Hop, Has_from_read, not_Has_from_read}
use Rattle.nf_complete_cycles.proofs.way.crossing.Goals as goal

pub bounds-flags-index : goal.bounds-flags-index
bounds-flags-index c = let is : c.index.result ≡ c.args.hop.now.tail = c.index.ensures ∙ ap (λ (h : Hop). h.tail) c.hop.view_is in let below = c.requires.tail in omega arith

pub bounds-flags-index-2 : goal.bounds-flags-index-2
bounds-flags-index-2 c = let is : c.index-2.result ≡ c.args.hop.now.head = c.index-2.ensures ∙ ap (λ (h : Hop). h.head) c.hop.view_is in let below = c.requires.head in omega arith

pub returns-then-not-from_head : goal.returns-then-not-from_head
returns-then-not-from_head c =
    let tail : c.index.result ≡ c.args.hop.now.tail = c.index.ensures ∙ ap (λ (h : Hop). h.tail) c.hop.view_is in
    let head : c.index-2.result ≡ c.args.hop.now.head = c.index-2.ensures ∙ ap (λ (h : Hop). h.head) c.hop.view_is in (
      subst (λ (v : ℕ). Has c.args.flags.now v) tail (Has_from_read c.args.flags.now c.index.result c.if-from_tail.true),
      λ k. not_Has_from_read c.args.flags.now c.index-2.result c.if-not-from_head.true (subst (λ (v : ℕ). Has c.args.flags.now v) (sym head) k),
    )

pub returns-then-not-from_tail : goal.returns-then-not-from_tail
returns-then-not-from_tail c =
    let tail : c.index.result ≡ c.args.hop.now.tail = c.index.ensures ∙ ap (λ (h : Hop). h.tail) c.hop.view_is in
    let head : c.index-2.result ≡ c.args.hop.now.head = c.index-2.ensures ∙ ap (λ (h : Hop). h.head) c.hop.view_is in (
      subst (λ (v : ℕ). Has c.args.flags.now v) head (Has_from_read c.args.flags.now c.index-2.result c.if-from_head.true),
      λ k. not_Has_from_read c.args.flags.now c.index.result c.if-not-from_tail.true (subst (λ (v : ℕ). Has c.args.flags.now v) (sym tail) k),
    )
