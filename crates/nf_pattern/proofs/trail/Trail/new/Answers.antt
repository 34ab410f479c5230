use Rattle.std.proofs.Common.{ℕ, List, length, refl, ap, subst, ◌∙◌, arith}
use Rattle.nf_pattern.proofs.Common.{IsLost}
use Rattle.nf_pattern.proofs.Following.{follows_none}
use Rattle.nf_pattern.proofs.trail.Trail.new.Goals as goal

pub is_lost-lost-requires : goal.is_lost-lost-requires
is_lost-lost-requires c =
    let fits = c.ranges.nodes in
    let count = ap (λ (es : List ℕ). length es) c.deref.ensures.value ∙ c.in_ok-ends.ensures.count in omega arith

pub returns-clause-follows : goal.returns-clause-follows
returns-clause-follows c p =
    follows_none c.args.source c.args.hops.now c.args.resetting.now c.args.base.now p c.args.nodes refl (c.in_ok-tight.ensures.holds p) c.in_ok-tight.ensures.nodes
    c.in_ok-chain.ensures.chain c.in_ok-chain.ensures.count c.in_ok-ends.ensures.count c.in_ok-ends.ensures.ends (c.in_ok-firm.ensures p)

pub returns-clause-ends : goal.returns-clause-ends
returns-clause-ends c = c.in_ok-ends.ensures.ends

pub returns-clause-lost : goal.returns-clause-lost
returns-clause-lost c = subst (λ (es : List ℕ). IsLost c.args.source es c.is_lost-lost.result) c.deref.ensures.value c.is_lost-lost.ensures

pub returns-clause-nodes : goal.returns-clause-nodes
returns-clause-nodes c = c.in_ok-tight.ensures.nodes

pub ends-requires-clause-below : goal.ends-requires-clause-below
ends-requires-clause-below c = c.requires.below

pub ends-requires-clause-resetting : goal.ends-requires-clause-resetting
ends-requires-clause-resetting c = c.requires.resetting

pub ends-requires-clause-base : goal.ends-requires-clause-base
ends-requires-clause-base c = c.requires.base

pub chain-requires-clause-below : goal.chain-requires-clause-below
chain-requires-clause-below c = c.requires.below

pub firm_links-requires-clause-below : goal.firm_links-requires-clause-below
firm_links-requires-clause-below c = c.requires.below

pub firm_links-requires-clause-base : goal.firm_links-requires-clause-base
firm_links-requires-clause-base c = c.requires.base
