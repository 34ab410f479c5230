use Rattle.std.proofs.Common.{sym, subst}
use Rattle.nf_graph.proofs.Common.{NoneEnters}
use Rattle.nf_graph.proofs.Flags.{set_by_read, unset_by_read}
use Rattle.nf_graph.proofs.Searching.{none_enters}
use Rattle.nf_graph.proofs.order.is_ready.Goals as goal

pub returns-then-placed-index-clause-ready : goal.returns-then-placed-index-clause-ready
returns-then-placed-index-clause-ready c = λ free. absurd (free (set_by_read c.args.placed.now c.index.result c.args.node c.index.ensures c.if-placed-index.true))

pub returns-in-None-clause-ready : goal.returns-in-None-clause-ready
returns-in-None-clause-ready c = record {
  below = c.requires.below;
  free = unset_by_read c.args.placed.now c.index.result c.args.node c.index.ensures c.if-placed-index.false;
  none = none_enters c.args.hops.now c.args.chosen.now c.args.placed.now c.args.node c.in-None.ensures;
}

pub returns-in-Some-clause-searched : goal.returns-in-Some-clause-searched
returns-in-Some-clause-searched c = subst (NoneEnters c.args.hops.now c.args.chosen.now c.args.placed.now c.args.node) (sym c.index-in-Some.ensures) c.in-Some.ensures.first
