use Rattle.std.proofs.Common.{◌≡◌, suc, ◌≤◌, length}
use Rattle.nf_pattern.proofs.Common.{AreIdle, IsLastTo}
use Rattle.nf_pattern.proofs.Each.{EachEntry}
use Rattle.nf_pattern.proofs.stated.last_stated.Given as goal

-- there are those of the links so far
abbrev pub invariant-loop-e : goal.invariant-loop-e
invariant-loop-e l = record {
  count : length l.last.items ≡ l.e;
  found : (l.found ≤ l.e) × AreIdle l.base (suc l.found) l.e;
  last : EachEntry (IsLastTo l.base) l.last.items;
}
