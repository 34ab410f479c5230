use Rattle.std.proofs.Common.{ℕ, ◌%◌, ◌*◌, ◌^◌, subst, arith}
use Rattle.nf_linear.proofs.Common.{w64, bit_or, bit_at_set_same, IsSubset}
use Rattle.nf_linear.proofs.Bits.{within_left}
use Rattle.nf_linear.proofs.marks.Marks.put.Goals as goal

pub returns-clause-put : goal.returns-clause-put
returns-clause-put c = bit_at_set_same w64 c.self.inside.word (c.args.number % 64) (omega arith)

pub returns-clause-kept : goal.returns-clause-kept
returns-clause-kept c =
    subst (λ (word : ℕ). IsSubset word (bit_or c.self.inside.word (1 * 2 ^ (c.args.number % 64) % 2 ^ 64))) c.self.view_is
    (within_left c.self.inside.word (1 * 2 ^ (c.args.number % 64) % 2 ^ 64))
