use Rattle.std.proofs.Common.{length, ◌-◌}
use Rattle.nf_pattern.proofs.Common.{DoEndsCarry, Follows, IsOnWay}
use Rattle.nf_pattern.proofs.trail.Trail.extend.Given as goal

-- The links so far are examined.
abbrev pub invariant-loop-source : goal.invariant-loop-source
invariant-loop-source l = record {
  follows : Follows l.fn.source l.hops l.resetting l.states l.self;
  way : IsOnWay l.fn.self l.self;
  ends : DoEndsCarry l.resetting l.states l.self.ends.items;
}

abbrev pub decreases-loop-source : goal.decreases-loop-source
decreases-loop-source l = length l.hops - l.self.depth
