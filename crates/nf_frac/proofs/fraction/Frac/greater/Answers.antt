use Rattle.std.proofs.Common.{Bool, cond, ap}
use Rattle.nf_rational.specs.Order.{max_ℚ}
use Rattle.nf_frac.proofs.fraction.Frac.greater.Goals as goal

pub returns-then-is_at_most : goal.returns-then-is_at_most
unfolding max_ℚ
returns-then-is_at_most g c = ap (λ (t : Bool). cond t c.args.right c.args.self) (c.if-is_at_most.ensures {u = tt})

pub returns-else-is_at_most : goal.returns-else-is_at_most
unfolding max_ℚ
returns-else-is_at_most g c = ap (λ (t : Bool). cond t c.args.right c.args.self) (c.if-is_at_most.ensures {u = tt})
