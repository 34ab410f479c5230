use Rattle.std.proofs.Common.{ℕ, subst, arith}
use Rattle.nf_linear.proofs.Common.{IsFree}
use Rattle.nf_linear.proofs.Bits.{free_before}
use Rattle.nf_linear.proofs.marks.Marks.next.Goals as goal

pub returns-clause-free : goal.returns-clause-free
returns-clause-free c = λ i from before.
    let least = c.min.ensures in
    subst (λ (word : ℕ). IsFree word i) c.self.view_is
    (free_before c.self.inside.word c.args.from c.rotate_right-ahead.result c.min.result i (omega arith) c.rotate_right-ahead.ensures (omega arith) from before)
