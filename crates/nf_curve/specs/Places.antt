-- Counts of points at or before a time.
use Rattle.std.specs.Prelude.{◌≡◌, ℕ, zero, suc, if◌then◌else◌, List, [], ◌∷◌, Option, Some, None, Ok}
use Rattle.nf_rational.specs.Rational.{ℚ}
use Rattle.nf_rational.specs.Operations.{0ℚ}
use Rattle.nf_rational.specs.Order.{◌<ℚ◌, lt_ℚ, min_ℚ}
use Rattle.nf_frac_def.specs.Passing.{Passing}
use Rattle.nf_frac_def.specs.Checked.{Checked}
use Rattle.nf_model.specs.Curve.{Point}
use Rattle.nf_rational.specs.Signs.{is_same}
use Rattle.nf_curve_def.specs.Lines.{checked_line}
use Rattle.nf_curve_def.specs.Times.{merged, times_of}

-- counts the leading points at or before a time
abbrev pub count_until : ℚ → List Point → ℕ
count_until time [] = zero
count_until time (p ∷ rest) = if lt_ℚ time p.0 then zero else suc (count_until time rest)

-- computes the value at a time from the last point at or before it and the next point
abbrev pub value_between : Passing → ℚ → Option Point → Option Point → Checked ℚ
value_between passes time None next = Ok 0ℚ
value_between passes time (Some p) None = Ok p.1
value_between passes time (Some p) (Some q) = if is_same time p.0 then Ok p.1 else checked_line passes p q time

-- ---- the merged times of two curves after a time
-- the points after a time
abbrev pub points_after : ℚ → List Point → List Point
points_after time [] = []
points_after time (p ∷ rest) = if lt_ℚ time p.0 then p ∷ rest else points_after time rest

abbrev pub times_after : ℚ → List Point → List Point → List ℚ
times_after time left right = merged (times_of (points_after time left)) (times_of (points_after time right))

-- returns the earlier of two times, or the only one
abbrev pub earlier_of : Option ℚ → Option ℚ → Option ℚ
earlier_of None None = None
earlier_of (Some s) None = Some s
earlier_of None (Some t) = Some t
earlier_of (Some s) (Some t) = Some (min_ℚ s t)

-- states that the given time is the first one of the merge after `time`, or that none is left
abbrev pub ComesNext : ℚ → List Point → List Point → Option ℚ → Type 0
ComesNext time left right None = times_after time left right ≡ []
ComesNext time left right (Some next) = (time <ℚ next) × (times_after time left right ≡ next ∷ times_after next left right)
