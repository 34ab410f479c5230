use Rattle.std.proofs.Common.{ℕ, below_more, arith}
use Rattle.nf_complete_conditions.proofs.Common.{nat_tests, BringsInto}
use Rattle.nf_complete_conditions.proofs.Stating.{bare_made, not_bare}
use Rattle.nf_complete_conditions.proofs.states.is_bare.Goals as goal

pub returns-then-brings_into : goal.returns-then-brings_into
returns-then-brings_into c = not_bare c.args.net.now.net c.args.sets.now c.args.flows.now c.args.flows.now c.args.node c.loop-e.e c.if-brings_into.ensures

pub loop-e-preserved : goal.loop-e-preserved
loop-e-preserved c = below_more (λ (k : ℕ). BringsInto c.args.net.now.net c.args.sets.now c.args.flows.now c.args.node k → ⊥) c.loop-e.e c.loop-e.invariant c.if-brings_into.ensures

pub returns : goal.returns
returns c = bare_made c.args.net.now.net c.args.sets.now c.args.flows.now c.args.flows.now c.args.node
    (λ same. absurd (let e = c.eq.ensures in let f = c.if-eq.false in let s = c.source.ensures.value in grind (arith, nat_tests)))
    (λ e h. c.loop-e.invariant e (omega arith))
