-- Rules on single points. Labels are not negative, inflows start at 0 and never fall, and rates are slopes.
use Rattle.std.specs.Prelude.{ℕ, if◌then◌else◌, List, [], ◌∷◌, Option, Some, None, Ok}
use Rattle.nf_rational.specs.Rational.{ℚ}
use Rattle.nf_rational.specs.Operations.{0ℚ}
use Rattle.nf_rational.specs.Order.{lt_ℚ}
use Rattle.nf_frac_def.specs.Passing.{Passing}
use Rattle.nf_frac_def.specs.Checked.{◌>>=◌}
use Rattle.nf_frac_def.specs.declared.Part.TheVariants.{Check}
use Rattle.nf_model.specs.Curve.{Point}
use Rattle.nf_rational.specs.Signs.{is_same, is_zero}
use Rattle.nf_curve_def.specs.Lines.{Sides, checked_slope}
use Rattle.nf_check_def.specs.declared.CheckRule.TheVariants.{C2}
use Rattle.nf_check_def.specs.declared.Subject.{Subject}
use Rattle.nf_check_def.specs.Trial.{Trial, in_part, unless}

-- the first point with a negative value, and 0
abbrev pub negative_point : List Point → Option Sides
negative_point [] = None
negative_point (p ∷ rest) = if lt_ℚ p.1 0ℚ then Some (record { time = p.0; left = p.1; right = 0ℚ }) else negative_point rest

-- the first point whose value exceeds the next value, with both values
abbrev pub falling_from : Point → List Point → Option Sides
falling_from p [] = None
falling_from p (q ∷ rest) = if lt_ℚ q.1 p.1 then Some (record { time = p.0; left = p.1; right = q.1 }) else falling_from q rest

abbrev pub inflow_fault : List Point → Option Sides
inflow_fault [] = None
inflow_fault (p ∷ rest) = if is_zero p.1 then falling_from p rest else Some (record { time = 0ℚ; left = p.1; right = 0ℚ })

abbrev pub if_other : ℚ → ℚ → ℚ → Option Sides
if_other time rate slope = if is_same rate slope then None else Some (record { time = time; left = rate; right = slope })

module _ (passes : Passing) where
  -- compares each rate with the slope to the next point
  abbrev pub rates_from : Subject ℕ ℕ → Point → List Point → List ℚ → Trial (Unit {0})
  rates_from subject p (q ∷ rest) (rate ∷ rates) = do
    k ← in_part Check (checked_slope passes p q)
    _ ← unless C2 subject (if_other p.0 rate k)
    rates_from subject q rest rates
  rates_from subject p rest rates = Ok tt

  abbrev pub rates_list : Subject ℕ ℕ → List Point → List ℚ → Trial (Unit {0})
  rates_list subject [] rates = Ok tt
  rates_list subject (p ∷ rest) rates = rates_from subject p rest rates
