use Rattle.std.proofs.Common.{ℕ, refl, subst, arith}
use Rattle.nf_pattern.proofs.Common.{IsTightStack}
use Rattle.nf_pattern.proofs.Following.{left_back}
use Rattle.nf_pattern.proofs.trail.Trail.leave.Goals as goal

pub take_back-requires-clause-tails : goal.take_back-requires-clause-tails
take_back-requires-clause-tails c = c.requires.left.3.tight.count_tails

pub take_back-requires-clause-heads : goal.take_back-requires-clause-heads
take_back-requires-clause-heads c = c.requires.left.3.tight.count_heads

pub take_back-requires-clause-below : goal.take_back-requires-clause-below
take_back-requires-clause-below c = c.requires.left.3.tight.below

pub returns-clause-kept : goal.returns-clause-kept
returns-clause-kept c source resetting p follows =
    let some = c.requires.some in
    left_back source c.args.hops.now resetting p follows (omega arith)
    (c.take_back.ensures.holds p (subst (λ (k : ℕ). IsTightStack c.args.hops.now p k c.args.self.now.tight) (omega arith) follows.tight)) c.take_back.ensures.nodes refl refl refl
