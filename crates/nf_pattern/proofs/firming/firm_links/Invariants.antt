use Rattle.std.proofs.Common.{◌≡◌, length}
use Rattle.nf_pattern.proofs.Common.{NoneCloses, IsTightStack}
use Rattle.nf_pattern.proofs.Calming.{AreMarked}
use Rattle.nf_pattern.proofs.firming.firm_links.Given as goal

-- The links so far close no cycle, and the Tight ones are flagged.
abbrev pub invariant-loop-e : goal.invariant-loop-e
invariant-loop-e l = record {
  holds : IsTightStack l.fn.hops l.fn.base l.e l.tight;
  clear : NoneCloses l.fn.hops l.fn.base l.e;
  count : length l.firm.flags.items ≡ length l.fn.hops;
  marked : AreMarked l.fn.base l.e l.firm.flags.items;
}
