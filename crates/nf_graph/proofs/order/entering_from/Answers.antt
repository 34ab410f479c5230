use Rattle.std.proofs.Common.{◌≡◌, sym, subst}
use Rattle.nf_graph.proofs.Common.{Has, Hop}
use Rattle.nf_graph.proofs.Flags.{Has_from_read, not_Has_from_read}
use Rattle.nf_graph.proofs.Walks.{IsHop-read, IsHop-unique}
use Rattle.nf_graph.proofs.Searching.{none_more, none_within}
use Rattle.nf_graph.proofs.order.entering_from.Goals as goal
use Rattle.nf_graph.proofs.order.entering_from.Goals.{then-chosen-e+else-leads_in, else-chosen-e}

pub returns-then-leads_in : goal.returns-then-leads_in
returns-then-leads_in c = record {
  enters = record {
    hop = c.index-hops-e.result;
    is_hop = IsHop-read c.args.hops.now c.loop-e.e c.index-hops-e.result c.loop-e-test.true c.index-hops-e.is;
    chosen_too = Has_from_read c.args.chosen.now c.loop-e.e c.if-chosen-e.true;
    head = c.if-leads_in.ensures.0;
    free = c.if-leads_in.ensures.1;
  };
  first = c.loop-e.invariant;
}

pub loop-e-preserved : goal.loop-e-preserved
loop-e-preserved c = none_more c.args.hops.now c.args.chosen.now c.args.placed.now c.args.node c.loop-e.e c.loop-e.invariant
    (elim c.if-chosen-e.branch [
      | then-chosen-e+else-leads_in w ↦ λ x.
          let same : x.hop ≡ c.index-hops-e.result = IsHop-unique c.args.hops.now c.loop-e.e _ _ x.is_hop
          (IsHop-read c.args.hops.now c.loop-e.e c.index-hops-e.result c.loop-e-test.true c.index-hops-e.is) in
          x.free (subst (λ (h : Hop). Has c.args.placed.now h.tail) (sym same) (w.if-leads_in.ensures (subst (λ (h : Hop). h.head ≡ c.args.node) same x.head)))
      | else-chosen-e w ↦ λ x. not_Has_from_read c.args.chosen.now c.loop-e.e w.if-chosen-e.false x.chosen_too
    ])

pub returns : goal.returns
returns c = none_within c.args.hops.now c.args.chosen.now c.args.placed.now c.args.node c.loop-e.e c.loop-e-test.false c.loop-e.invariant

pub leads_in-requires : goal.leads_in-requires
leads_in-requires c =
    c.requires.ends.tails c.loop-e.e c.index-hops-e.result (IsHop-read c.args.hops.now c.loop-e.e c.index-hops-e.result c.loop-e-test.true c.index-hops-e.is)
