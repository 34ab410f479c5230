-- A count that one fault raised.
use Rattle.std.specs.Prelude.{◌≡◌, ℕ, ◌+◌, ◌<◌}
use Rattle.std.proofs.Common.{arith, ◌∙◌, inl, inr}
use native.Mathlib.Decide.{dec_lt}
use Rattle.std.proofs.Math.Nat.{min-eq_left}
use Rattle.nf_edge.specs.Faults.{greatest_count, Rose, one_more}

-- below its greatest value it is greater now
pub rises : (before now : ℕ) → before < greatest_count → now ≡ one_more before → before < now
rises before now below e =
    let more : now ≡ before + 1 = e ∙ min-eq_left (omega (arith, below)) in
    omega (arith, more)

-- at its greatest value it counts as risen too
pub rose : (before now : ℕ) → now ≡ one_more before → Rose before now
rose before now e = at (dec_lt before greatest_count)
  where
    at : Dec (before < greatest_count) → Rose before now
    at (yes below) = inl (rises before now below e)
    at (no full) = inr (omega (arith, full))
