use Rattle.std.proofs.Common.{ℕ, ◌+◌, refl, ap}
use Rattle.nf_residual.proofs.FromBehind.{as_many, not_as_many}
use Rattle.nf_residual.proofs.ways.Ways.are_fewer_or_before.Goals as goal

pub returns-then-fewer-count : goal.returns-then-fewer-count
returns-then-fewer-count c = as_many c.args.self.now c.args.way c.args.step c.args.other (c.step_count-fewer.result + 1) c.step_count-count.result c.are_before.result
    (ap (λ (n : ℕ). n + 1) c.step_count-fewer.ensures.value) c.step_count-count.ensures.value c.if-fewer-count.true c.are_before.ensures

pub returns-else-fewer-count : goal.returns-else-fewer-count
returns-else-fewer-count c = not_as_many c.args.self.now c.args.way c.args.step c.args.other (c.step_count-fewer.result + 1) c.step_count-count.result _
    (ap (λ (n : ℕ). n + 1) c.step_count-fewer.ensures.value) c.step_count-count.ensures.value c.if-fewer-count.false refl
