use Rattle.std.proofs.Common.{◌≡◌, ◌+◌, replicate}
use Rattle.nf_linear.proofs.Common.{0ℚ}
use Rattle.nf_linear.proofs.table.Table.new.Given as goal

abbrev pub invariant-loop : goal.invariant-loop
invariant-loop g l = l.rows.items ≡ replicate l.counter (replicate (l.count + 1) 0ℚ)
