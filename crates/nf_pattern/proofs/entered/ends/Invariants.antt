use Rattle.std.proofs.Common.{◌≡◌, length}
use Rattle.nf_pattern.proofs.Common.{AreEndsBefore}
use Rattle.nf_pattern.proofs.entered.ends.Given as goal

abbrev pub invariant-loop-e : goal.invariant-loop-e
invariant-loop-e l = record {
  count : length l.ends.items ≡ l.fn.nodes;
  ends : AreEndsBefore l.fn.hops l.fn.resetting l.fn.base l.e l.ends.items;
}
