use Rattle.std.proofs.Common.{◌-◌, ℕ, List, Bool}
use Rattle.nf_pattern.proofs.Common.{Pattern, AreStated, Follows, IsLeftBy, IsOnWay}
use Rattle.nf_pattern.proofs.trail.Trail.retreat.Given as goal

-- The trail is still an examined prefix of each pattern of which it was one.
abbrev pub invariant-loop-self : goal.invariant-loop-self
invariant-loop-self l = record {
  left : IsLeftBy l.hops l.stated l.self;
  kept : (source : ℕ) (resetting : List Bool) (p : Pattern) → AreStated p l.stated → Follows source l.hops resetting p l.fn.self → Follows source l.hops resetting p l.self;
  way : IsOnWay l.fn.self l.self;
}

abbrev pub decreases-loop-self : goal.decreases-loop-self
decreases-loop-self l = l.self.depth - l.link
