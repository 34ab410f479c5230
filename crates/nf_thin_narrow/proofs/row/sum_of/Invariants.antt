use Rattle.std.proofs.Common.{◌≡◌, ℕ, min}
use Rattle.nf_thin_narrow.proofs.Common.{most, CountsCapped, first_ways}
use Rattle.nf_thin_narrow.proofs.row.sum_of.Given as goal

-- those so far are summed
abbrev pub invariant-loop-k : goal.invariant-loop-k
invariant-loop-k l = (ways : ℕ → ℕ) → CountsCapped l.row ways → l.sum ≡ min (first_ways ways l.k) most
