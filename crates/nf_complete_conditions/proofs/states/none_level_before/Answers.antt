use Rattle.std.proofs.Common.{ℕ, below_more, arith}
use Rattle.nf_complete_conditions.proofs.Common.{LevelInto}
use Rattle.nf_complete_conditions.proofs.states.none_level_before.Goals as goal

pub returns-then-is_level_into : goal.returns-then-is_level_into
returns-then-is_level_into c = λ none. none c.loop-e.e (omega arith) c.if-is_level_into.ensures

pub loop-e-preserved : goal.loop-e-preserved
loop-e-preserved c = below_more (λ (k : ℕ). LevelInto c.args.net.now.net c.args.sets.now c.args.slopes.now c.args.node k → ⊥) c.loop-e.e c.loop-e.invariant c.if-is_level_into.ensures

pub returns : goal.returns
returns c = λ k h. c.loop-e.invariant k (omega arith)
