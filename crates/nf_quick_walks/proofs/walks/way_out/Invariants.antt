use Rattle.std.proofs.Common.{◌≡◌, ◌<◌, length}
use Rattle.nf_quick_walks.proofs.Common.{AreSpent, HaveFlow}
use Rattle.nf_quick_walks.proofs.WalkByWalk.{LeadsOut}
use Rattle.nf_quick_walks.proofs.walks.way_out.Given as goal

abbrev pub invariant-loop : goal.invariant-loop
invariant-loop l = record {
  leads : LeadsOut l.net.net l.flows l.way.items l.node l.counter;
  flow : HaveFlow l.flows l.way.items;
  spent : AreSpent l.net.net.links l.flows l.spent.items;
  count : length l.spent.items ≡ l.net.net.nodes;
  node : l.node < l.net.net.nodes;
}
