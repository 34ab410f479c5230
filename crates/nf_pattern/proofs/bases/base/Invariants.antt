use Rattle.std.proofs.Common.{◌≡◌, length}
use Rattle.nf_pattern.proofs.Common.{AreBarred, IsBaseState}
use Rattle.nf_pattern.proofs.Each.{EachEntry}
use Rattle.nf_pattern.proofs.bases.base.Given as goal

-- there are the states of the links so far, and the flags of the nodes that resetting links and the active links so far enter
abbrev pub invariant-loop-e : goal.invariant-loop-e
invariant-loop-e l = record {
  count : length l.states.items ≡ l.e;
  each : EachEntry (IsBaseState l.hops l.sets l.last) l.states.items;
  flags : AreBarred l.nodes l.hops l.sets l.e l.flags.items;
}
