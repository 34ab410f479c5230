use Rattle.std.proofs.Common.{◌≡◌, ◌<◌, ◌≤◌, ℕ, min, length}
use Rattle.nf_thin_narrow.proofs.Common.{ways_by, states_of, most, count_at}
use Rattle.nf_thin_narrow.proofs.row.add_link.Given as goal

-- entries from this one on are those with the link, and the others are as before
abbrev pub invariant-loop-k : goal.invariant-loop-k
invariant-loop-k l = record {
  count : length l.row ≡ length l.fn.row;
  within : l.k ≤ length l.fn.row;
  done : (j : ℕ) → l.k ≤ j → j < length l.fn.row → count_at l.row j ≡ min (ways_by (states_of l.base l.unbounded l.sole) l.base (count_at l.fn.row) j) most;
  rest : (j : ℕ) → j < l.k → count_at l.row j ≡ count_at l.fn.row j;
}

-- proposed from the loop's first test
abbrev pub decreases-loop-k : goal.decreases-loop-k
decreases-loop-k l = l.k
