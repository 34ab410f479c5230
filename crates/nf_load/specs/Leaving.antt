-- Slopes of exit and outflow between moments.
use Rattle.std.specs.Prelude.{◌≡◌, ℕ, false, List, Option, Some, None, slice_get, Ok}
use Rattle.nf_rational.specs.Rational.{ℚ}
use Rattle.nf_frac_def.specs.Passing.{bound_of, passes_Q, is_wide}
use Rattle.nf_frac_def.specs.Checked.{checked}
use Rattle.nf_frac_def.specs.declared.Op.TheVariants.{Quotient}
use Rattle.nf_curve_def.specs.Lines.{checked_slope}
use Rattle.nf_load_def.specs.Loading as lists
use Rattle.nf_load_def.specs.Loading.{exit_point, exit_after}
use Rattle.nf_load.specs.Slopes.{Along}
use Rattle.nf_load.specs.Paces.{IsPaceIf}
use Rattle.nf_load.specs.declared.waits.Pace.{Pace}
use Rattle.nf_load.specs.declared.waits.Leaving.{Leaving}

-- the slopes of exit and outflow from one moment to a later one, and no operation of them passes
pub record IsLeaving (before after : lists.Exit) (leaving : Leaving) : Type 0 where
  pub exit : checked_slope passes_Q (exit_point before) (exit_point after) ≡ Ok leaving.exit
  pub outflow : (before.exit ≡ after.exit → ⊥)
      → checked_slope passes_Q (before.exit, before.waits.amount) (after.exit, after.waits.amount) ≡ Ok leaving.outflow

abbrev pub IsLeavingIf : Option Leaving → lists.Exit → lists.Exit → Type 0
IsLeavingIf None before after = Unit {0}
IsLeavingIf (Some leaving) before after = IsLeaving before after leaving

-- the slopes that are known are those of the first moments
abbrev pub AreLeaving : List lists.Exit → List (Option Leaving) → Type 0
AreLeaving all leaving = Along IsLeavingIf all leaving

abbrev pub exit_slope_of : Leaving → ℚ
exit_slope_of leaving = leaving.exit

abbrev pub outflow_slope_of : Leaving → ℚ
outflow_slope_of leaving = leaving.outflow

-- the exits of two moments
pub record AreTwoExits (capacity : Option ℚ) (before after : lists.Exit) : Type 0 where
  pub transit : ℚ
  pub first : exit_after passes_Q capacity transit before.waits ≡ Ok before.exit
  pub second : exit_after passes_Q capacity transit after.waits ≡ Ok after.exit

-- the exits of moments, and their paces
pub record AreExitsOf (capacity : Option ℚ) (all : List lists.Exit) (paces : List (Option Pace)) : Type 0 where
  pub transit : ℚ
  pub exits : (i : ℕ) (one : lists.Exit) → slice_get all i ≡ Some one → exit_after passes_Q capacity transit one.waits ≡ Ok one.exit
  pub known : Along (λ pace before after. IsPaceIf capacity pace before.waits after.waits) all paces

-- the slope over a piece in which the queue is not empty: rate over capacity, and no part of either is beyond the bound
pub record IsBusy (capacity rate : ℚ) (leaving : Leaving) : Type 0 where
  pub outflow : leaving.outflow ≡ capacity
  pub quotient : checked passes_Q Quotient rate capacity ≡ Ok leaving.exit
  pub narrow : is_wide (bound_of 127) leaving.exit ≡ false
  pub narrow_capacity : is_wide (bound_of 127) capacity ≡ false
