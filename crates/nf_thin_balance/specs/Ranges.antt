-- Ranges of scaled numbers, with optional whole ends, and the range of a link's flow in its state.
use Rattle.std.specs.Prelude.{◌≡◌, ℕ, Bool, Option, Some, ℤ, pos, ◌+ℤ◌, ◌-ℤ◌}
use Rattle.nf_rational.specs.Rational.{ℚ}
use Rattle.nf_rational.specs.Operations.{0ℚ, whole, ◌*ℚ◌}
use Rattle.nf_rational.specs.Order.{◌≤ℚ◌}
use Rattle.nf_model.specs.declared.State.{State}
use Rattle.nf_model.specs.Pattern.{Fills, Equation, Inequality}
use Rattle.nf_thin_balance.specs.declared.ranges.Range.{Range}

-- The number times the scale.
abbrev pub scaled : ℕ → ℚ → ℚ
scaled scale x = whole (pos scale) *ℚ x

-- The number is at least this end, or there is no end.
abbrev pub IsAtLeastEnd : Option ℤ → ℚ → Type 0
IsAtLeastEnd least x = (end : ℤ) → least ≡ Some end → whole end ≤ℚ x

-- The number is at most this end, or there is no end.
abbrev pub IsUpTo : Option ℤ → ℚ → Type 0
IsUpTo greatest x = (end : ℤ) → greatest ≡ Some end → x ≤ℚ whole end

-- The number is in the range.
pub record IsInRange (range : Range) (x : ℚ) : Type 0 where
  pub from : IsAtLeastEnd range.least x
  pub up_to : IsUpTo range.greatest x

-- If the third end is known, it is the sum of the first two, which are known.
abbrev pub IsEndOfSum : Option ℤ → Option ℤ → Option ℤ → Type 0
IsEndOfSum one other sum = (end : ℤ) → sum ≡ Some end → (a : ℤ) × (b : ℤ) × (one ≡ Some a) × (other ≡ Some b) × (end ≡ a +ℤ b)

-- If the third end is known, it is the difference of the first two, which are known.
abbrev pub IsEndOfDifference : Option ℤ → Option ℤ → Option ℤ → Type 0
IsEndOfDifference one other difference = (end : ℤ) → difference ≡ Some end
    → (a : ℤ) × (b : ℤ) × (one ≡ Some a) × (other ≡ Some b) × (end ≡ a -ℤ b)

-- The range holds the scaled flow that fills the link, and has no ends if the link is unbounded.
pub record IsFull (scale : ℕ) (capacity : Option ℚ) (head_slope : ℚ) (range : Range) : Type 0 where
  pub from : (end : ℤ) → range.least ≡ Some end → (most : ℚ) × Fills capacity most head_slope × (whole end ≤ℚ scaled scale most)
  pub up_to : (end : ℤ) → range.greatest ≡ Some end → (most : ℚ) × Fills capacity most head_slope × (scaled scale most ≤ℚ whole end)

-- The flow meets the equation and the inequality of a link's state. `full` has the scaled flow that fills the link.
pub record MeetsState (scale : ℕ) (state : Option State) (resetting : Bool) (full : Range) (capacity : Option ℚ)
    (flow tail_slope head_slope : ℚ) : Type 0 where
  pub fills : IsFull scale capacity head_slope full
  pub no_negative : 0ℚ ≤ℚ flow
  pub equation : Equation state resetting capacity flow tail_slope head_slope
  pub inequality : Inequality state capacity flow tail_slope head_slope
