use Rattle.std.proofs.Common.{Bool, cond, ap}
use Rattle.nf_rational.specs.Order.{min_ℚ}
use Rattle.nf_frac.proofs.fraction.Frac.lesser.Goals as goal

pub returns-then-is_at_most : goal.returns-then-is_at_most
unfolding min_ℚ
returns-then-is_at_most g c = ap (λ (t : Bool). cond t c.args.self c.args.right) (c.if-is_at_most.ensures {u = tt})

pub returns-else-is_at_most : goal.returns-else-is_at_most
unfolding min_ℚ
returns-else-is_at_most g c = ap (λ (t : Bool). cond t c.args.self c.args.right) (c.if-is_at_most.ensures {u = tt})
