use Rattle.std.proofs.Common.{◌≡◌, ◌==◌, ◌≤◌, ◌+◌, ◌-◌, length, drop}
use Rattle.nf_text.proofs.Common.{position_or_len}
use Rattle.nf_text.proofs.places.far_place_of.Given as goal

abbrev pub invariant-loop-at : goal.invariant-loop-at
invariant-loop-at l = record {
  within : l.at ≤ length l.bytes;
  place : position_or_len (λ b. b == l.wanted) l.bytes ≡ l.at + position_or_len (λ b. b == l.wanted) (drop l.at l.bytes);
}

abbrev pub decreases-loop-at : goal.decreases-loop-at
decreases-loop-at l = length l.bytes - l.at
