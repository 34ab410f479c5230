use Rattle.std.proofs.Common.{◌≢◌, ℕ, below_more, arith}
use Rattle.nf_complete_conditions.proofs.Common.{nat_tests, Takes}
use Rattle.nf_complete_conditions.proofs.taken.each_is_taken.Goals.{then-ne+else-not-is_taken, else-ne}
use Rattle.nf_complete_conditions.proofs.taken.each_is_taken.Goals as goal

pub is_taken-requires-clause-sets : goal.is_taken-requires-clause-sets
is_taken-requires-clause-sets c = c.requires.sets

pub is_taken-requires-clause-flows : goal.is_taken-requires-clause-flows
is_taken-requires-clause-flows c = c.requires.flows

pub is_taken-requires-clause-slopes : goal.is_taken-requires-clause-slopes
is_taken-requires-clause-slopes c = c.requires.slopes

pub returns-then-not-is_taken : goal.returns-then-not-is_taken
returns-then-not-is_taken c = λ each.
    let other : c.loop-v.v ≢ c.args.net.now.net.source = (λ same. absurd (let e = c.ne.ensures in let f = c.if-ne.true in
    let s = c.source-source.ensures.value in grind (arith, nat_tests))) in
    let t = each c.loop-v.v (let n = c.node_count-v-end.ensures in let i = c.loop-v-test.true in omega arith) other in
    c.if-not-is_taken.ensures t.0 t.1

pub loop-v-preserved : goal.loop-v-preserved
loop-v-preserved c =
    below_more (λ (v : ℕ). v ≢ c.args.net.now.net.source → (e : ℕ) × Takes c.args.net.now.net c.args.sets.now c.args.flows.now c.args.slopes.now v e)
    c.loop-v.v c.loop-v.invariant
    (elim c.if-ne.branch [
      | then-ne+else-not-is_taken w ↦ λ _. w.if-not-is_taken.ensures
      | else-ne w ↦ λ other. absurd (other (let e = c.ne.ensures in let f = w.if-ne.false in let s = c.source-source.ensures.value in grind (arith, nat_tests)))
    ])

pub returns : goal.returns
returns c = λ v below other. c.loop-v.invariant v (let n = c.node_count-v-end.ensures in let end = c.loop-v-test.false in omega arith) other
