use Rattle.std.proofs.Common.{◌≡◌, ℕ, ◌<◌, Ok}
use Rattle.nf_check.proofs.Common.{passes_Q, points_at, checked_cut, points_of_each}
use Rattle.nf_check.proofs.labels.are_whole.Given as goal

abbrev pub invariant-loop-label : goal.invariant-loop-label
invariant-loop-label l = (v : ℕ) → v < l.label-index → checked_cut passes_Q (points_at (points_of_each l.labels) v) l.last ≡ Ok (points_at (points_of_each l.labels) v)
