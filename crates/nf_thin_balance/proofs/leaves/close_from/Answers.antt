use Rattle.std.proofs.Common.{ℕ, ◌<◌, length, refl, sym, subst, ◌∙◌, Option, IfSome}
use Rattle.nf_thin_balance.proofs.Common.{true≢false}
use Rattle.nf_thin_balance.proofs.leaves.close_from.Goals as goal

pub loop-init : goal.loop-init
loop-init c = record { node = c.requires.start; count = c.requires.ranges; within = λ flow within conserves. within }

pub returns-in_default-clause-keeps : goal.returns-in_default-clause-keeps
returns-in_default-clause-keeps c flow within conserves = (refl, c.loop.invariant.within flow within conserves)

pub returns-then-not-close-clause-keeps : goal.returns-then-not-close-clause-keeps
returns-then-not-close-clause-keeps c flow within conserves =
    absurd (true≢false (sym (c.close.ensures.keeps flow (c.loop.invariant.within flow within conserves) conserves).0 ∙ c.if-not-close.true))

pub loop-preserved : goal.loop-preserved
loop-preserved c = record {
  node = c.other_end-other.ensures;
  count = c.close.ensures.count;
  within = λ flow within conserves. (c.close.ensures.keeps flow (c.loop.invariant.within flow within conserves) conserves).1;
}

pub returns-clause-keeps : goal.returns-clause-keeps
returns-clause-keeps c flow within conserves = (refl, c.loop.invariant.within flow within conserves)

pub close-requires-clause-node : goal.close-requires-clause-node
close-requires-clause-node c = c.loop.invariant.node

pub close-requires-clause-ranges : goal.close-requires-clause-ranges
close-requires-clause-ranges c = c.loop.invariant.count

pub close-requires-clause-link : goal.close-requires-clause-link
close-requires-clause-link c = subst (λ (o : Option ℕ). IfSome o (λ (link : ℕ). link < length c.args.net.now.net.links)) c.in-Some.is c.only_open.ensures
