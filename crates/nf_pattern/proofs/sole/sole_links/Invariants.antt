use Rattle.std.proofs.Common.{◌≡◌, ℕ, Bool, true, length, Some, slice_get}
use Rattle.nf_pattern.proofs.Common.{AreEndsBefore, EntersAlone}
use Rattle.nf_pattern.proofs.sole.sole_links.Given as goal

-- the flags of the links so far
abbrev pub invariant-loop-e : goal.invariant-loop-e
invariant-loop-e l = record {
  count : length l.sole.items ≡ l.e;
  sole : (k : ℕ) (flag : Bool) → slice_get l.sole.items k ≡ Some flag → flag ≡ true → EntersAlone l.fn.source l.fn.hops l.fn.resetting l.fn.base k;
  nodes : length l.before.items ≡ l.fn.nodes;
  before : AreEndsBefore l.fn.hops l.fn.resetting l.fn.base l.e l.before.items;
}
