use Rattle.std.proofs.Common.{◌≡◌, length, replicate, None}
use Rattle.nf_quick_walks.proofs.unbounded.first_ways.Given as goal

abbrev pub invariant-loop : goal.invariant-loop
invariant-loop l = record { items : l.ways.items ≡ replicate l.counter None; count : length l.ways.items ≡ l.counter }
