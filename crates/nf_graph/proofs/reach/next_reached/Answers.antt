use Rattle.std.proofs.Common.{ap, sym, subst}
use Rattle.nf_graph.proofs.Common.{Has, Hop}
use Rattle.nf_graph.proofs.Walks.{each_more, each_all, IsHop-read}
use Rattle.nf_graph.proofs.reach.next_reached.Goals as goal

pub returns-then-leads_out : goal.returns-then-leads_out
returns-then-leads_out c = record {
  number = c.loop-hop.hop-index;
  hop = c.hop-item.result;
  is_hop = IsHop-read c.args.hops.now c.loop-hop.hop-index c.hop-item.result c.loop-hop-test.true c.hop-item.is;
  tail = c.if-leads_out.ensures.0;
  head = ap (λ (h : Hop). h.head) (sym c.hop.view_is);
  free = subst (λ (h : Hop). Has c.args.flags.now h.head → ⊥) (sym c.hop.view_is) c.if-leads_out.ensures.1;
}

pub loop-hop-preserved : goal.loop-hop-preserved
loop-hop-preserved c = each_more (λ _ (hop : Hop). Has c.args.flags.now hop.tail → Has c.args.flags.now hop.head) c.args.hops.now c.loop-hop.hop-index c.hop-item.result
    c.loop-hop.invariant (IsHop-read c.args.hops.now c.loop-hop.hop-index c.hop-item.result c.loop-hop-test.true c.hop-item.is) c.if-leads_out.ensures

pub returns : goal.returns
returns c = each_all (λ _ (hop : Hop). Has c.args.flags.now hop.tail → Has c.args.flags.now hop.head) c.args.hops.now c.loop-hop.hop-index c.loop-hop.invariant c.loop-hop-test.false

pub leads_out-requires-clause-tail : goal.leads_out-requires-clause-tail
leads_out-requires-clause-tail c =
    c.requires.tails c.loop-hop.hop-index c.hop-item.result (IsHop-read c.args.hops.now c.loop-hop.hop-index c.hop-item.result c.loop-hop-test.true c.hop-item.is)

pub leads_out-requires-clause-head : goal.leads_out-requires-clause-head
leads_out-requires-clause-head c =
    c.requires.heads c.loop-hop.hop-index c.hop-item.result (IsHop-read c.args.hops.now c.loop-hop.hop-index c.hop-item.result c.loop-hop-test.true c.hop-item.is)
