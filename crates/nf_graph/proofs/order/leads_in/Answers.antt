use Rattle.std.proofs.Common.{◌≡◌, ℕ, ◌<◌, length, sym, ap, subst, ◌∙◌}
use Rattle.nf_graph.proofs.Common.{Hop}
use Rattle.nf_graph.proofs.Flags.{free_by_read, otherwise}
use Rattle.nf_graph.proofs.Walks.{same_from_test, apart_from_test}
use Rattle.nf_graph.proofs.order.leads_in.Goals as goal

pub returns-then-eq : goal.returns-then-eq
returns-then-eq c =
    let head : c.args.hop.now.head ≡ c.args.node = ap (λ (h : Hop). h.head) (sym c.hop.view_is) ∙ same_from_test _ _ c.if-eq.ensures in
    free_by_read c.args.placed.now c.index.result c.args.hop.now.tail (c.args.hop.now.head ≡ c.args.node) (c.index.ensures ∙ ap (λ (h : Hop). h.tail) c.hop.view_is) head

pub returns-else-eq : goal.returns-else-eq
returns-else-eq c =
    otherwise c.eq.result _ _ c.if-eq.false (λ same. absurd (apart_from_test _ _ c.if-eq.ensures (ap (λ (h : Hop). h.head) c.hop.view_is ∙ same)))

pub bounds-placed-index : goal.bounds-placed-index
bounds-placed-index c =
    subst (λ (n : ℕ). n < length c.args.placed.now) (sym (c.index.ensures ∙ ap (λ (h : Hop). h.tail) c.hop.view_is)) c.requires
