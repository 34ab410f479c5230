use Rattle.std.proofs.Common.{◌≡◌, ℕ, ◌≤◌, length, Some, slice_get}
use Rattle.nf_pattern.proofs.Common.{IsNextFrom}
use Rattle.nf_pattern.proofs.stated.next_stated.Given as goal

-- there are those of the links from this one on
abbrev pub invariant-loop-e : goal.invariant-loop-e
invariant-loop-e l = record {
  within : l.e ≤ length l.base;
  count : length l.next.items ≡ length l.base;
  found : IsNextFrom l.base l.e l.found;
  next : (k n : ℕ) → l.e ≤ k → slice_get l.next.items k ≡ Some n → IsNextFrom l.base k n;
}

abbrev pub decreases-loop-e : goal.decreases-loop-e
decreases-loop-e l = l.e
