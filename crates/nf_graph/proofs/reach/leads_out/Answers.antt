use Rattle.std.proofs.Common.{ap, ◌∙◌}
use Rattle.nf_graph.proofs.Common.{Has, Hop}
use Rattle.nf_graph.proofs.Flags.{free_by_read, set_by_read, unset_by_read, otherwise}
use Rattle.nf_graph.proofs.reach.leads_out.Goals as goal

pub returns-then-flags-index : goal.returns-then-flags-index
returns-then-flags-index c =
    free_by_read c.args.flags.now c.index-then-flags-index.result c.args.hop.now.head (Has c.args.flags.now c.args.hop.now.tail)
    (c.index-then-flags-index.ensures ∙ ap (λ (h : Hop). h.head) c.hop.view_is)
    (set_by_read c.args.flags.now c.index.result c.args.hop.now.tail (c.index.ensures ∙ ap (λ (h : Hop). h.tail) c.hop.view_is) c.if-flags-index.true)

pub returns-else-flags-index : goal.returns-else-flags-index
returns-else-flags-index c =
    otherwise _ _ _ c.if-flags-index.false
    (λ h. absurd (unset_by_read c.args.flags.now c.index.result c.args.hop.now.tail (c.index.ensures ∙ ap (λ (h : Hop). h.tail) c.hop.view_is) c.if-flags-index.false h))
