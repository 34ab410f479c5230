use Rattle.std.proofs.Common.{◌≡◌, ◌≢◌, ℕ, ◌<◌, Some, slice_get}
use Rattle.nf_pattern.proofs.entered.is_lost.Given as goal

abbrev pub invariant-loop-v : goal.invariant-loop-v
invariant-loop-v l = (w : ℕ) → w < l.v → w ≢ l.fn.source → slice_get l.fn.ends w ≡ Some 0 → ⊥
