use Rattle.std.proofs.Common.{◌≡◌, length}
use Rattle.nf_pattern.proofs.Common.{AreLastInto, AreChained}
use Rattle.nf_pattern.proofs.entered.chain.Given as goal

abbrev pub invariant-loop-e : goal.invariant-loop-e
invariant-loop-e l = record {
  count_last : length l.last.items ≡ l.fn.nodes;
  last : AreLastInto l.fn.hops l.e l.last.items;
  count : length l.chain.items ≡ l.e;
  chain : AreChained l.fn.hops l.chain.items;
}
