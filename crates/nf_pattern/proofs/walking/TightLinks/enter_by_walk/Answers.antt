use Rattle.std.proofs.Common.{refl, arith}
use Rattle.nf_pattern.proofs.Holding.{holds_loose, clear_more}
use Rattle.nf_pattern.proofs.walking.TightLinks.enter_by_walk.Goals as goal

pub returns-then-not-is_tight : goal.returns-then-not-is_tight
returns-then-not-is_tight c = (
  holds_loose c.args.hops.now c.args.states.now c.args.link c.args.self.now.last.items c.args.self.now.tails.items c.args.self.now.heads.items c.requires.holds c.if-not-is_tight.ensures,
  clear_more c.args.hops.now c.args.states.now c.args.link c.requires.clear (λ closes. c.if-not-is_tight.ensures closes.0),
)

pub returns-then-closes : goal.returns-then-closes
returns-then-closes c = (refl, c.if-closes.ensures)

pub returns : goal.returns
returns c = (
  c.put.ensures.holds c.args.states.now c.requires.holds c.if-not-is_tight.ensures,
  clear_more c.args.hops.now c.args.states.now c.args.link c.requires.clear c.if-closes.ensures,
)

pub closes-requires-clause-stated : goal.closes-requires-clause-stated
closes-requires-clause-stated c = let below = c.requires.link in let count = c.requires.states in omega arith

pub put-requires-clause-tails : goal.put-requires-clause-tails
put-requires-clause-tails c = c.requires.holds.count_tails

pub put-requires-clause-heads : goal.put-requires-clause-heads
put-requires-clause-heads c = c.requires.holds.count_heads

pub put-requires-clause-below : goal.put-requires-clause-below
put-requires-clause-below c = c.requires.holds.below
