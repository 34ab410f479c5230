-- Counts of faults.
use Rattle.std.specs.Prelude.{◌⊎◌, ℕ, ◌+◌, ◌-◌, ◌^◌, ◌<◌, ◌≤◌, min}

-- the greatest count, of 64 bits
abbrev pub greatest_count : ℕ
greatest_count = 2 ^ 64 - 1

-- a count rose in a call; a count at its greatest value can't rise further, and counts as risen
abbrev pub Rose : ℕ → ℕ → Type 0
Rose before now = (before < now) ⊎ (greatest_count ≤ before)

-- one more, up to the greatest count
abbrev pub one_more : ℕ → ℕ
one_more count = min (count + 1) greatest_count
