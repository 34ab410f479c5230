use Rattle.std.proofs.Common.{◌≡◌, length}
use Rattle.nf_quick_walks.proofs.Common.{passes_Q, AreSpent}
use Rattle.nf_quick_walks.proofs.WalkByWalk.{TakesOn}
use Rattle.nf_quick_walks.proofs.walks.walks_off.Given as goal

abbrev pub invariant-loop : goal.invariant-loop
invariant-loop l = record {
  takes : TakesOn passes_Q l.net.net l.fn.flows.items l.walks.items l.flows.items l.counter;
  spent : AreSpent l.net.net.links l.flows.items l.spent.items;
  count : length l.spent.items ≡ l.net.net.nodes;
}
