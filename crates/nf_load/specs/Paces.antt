-- Slopes of amount and queue between moments.
use Rattle.std.specs.Prelude.{◌≡◌, ◌⊎◌, List, [], ◌∷◌, Option, Some, None, option_map, Ok}
use Rattle.nf_rational.specs.Rational.{ℚ}
use Rattle.nf_rational.specs.Operations.{0ℚ, ◌-ℚ◌}
use Rattle.nf_rational.specs.Order.{◌<ℚ◌}
use Rattle.nf_frac_def.specs.Passing.{Passing, passes_Q}
use Rattle.nf_frac_def.specs.Checked.{Checked, checked, ◌>>=◌}
use Rattle.nf_frac_def.specs.declared.Op.TheVariants.{Sum, Difference, Product}
use Rattle.nf_model.specs.Curve.{Point}
use Rattle.nf_curve_def.specs.Lines.{checked_slope}
use Rattle.nf_load_def.specs.Loading as lists
use Rattle.nf_load.specs.Slopes.{Along}
use Rattle.nf_load.specs.declared.waits.Pace.{Pace}
use Rattle.nf_load.specs.declared.waiting.Over.{Over}

-- the queue at `end`, if it changes from `start` at this slope
unfoldable pub grown_by : Passing → ℚ → ℚ → ℚ → ℚ → Checked ℚ
grown_by passes change queue start end = do
  d ← checked passes Difference end start
  p ← checked passes Product change d
  checked passes Sum queue p

-- The slopes from one moment to a later one, and no operation of them passes. The queue is empty at both, or its slope is the rate less the
-- capacity.
pub record IsPace (capacity : Option ℚ) (before after : lists.Waits) (pace : Pace) : Type 0 where
  pub later : before.time <ℚ after.time
  pub rate : checked_slope passes_Q (before.time, before.amount) (after.time, after.amount) ≡ Ok pace.rate
  pub change : checked_slope passes_Q (before.time, before.queue) (after.time, after.queue) ≡ Ok pace.change
  pub law : ((before.queue ≡ 0ℚ) × (after.queue ≡ 0ℚ)) ⊎ ((c : ℚ) → capacity ≡ Some c → pace.change ≡ pace.rate -ℚ c)

abbrev pub IsPaceIf : Option ℚ → Option Pace → lists.Waits → lists.Waits → Type 0
IsPaceIf capacity None before after = Unit {0}
IsPaceIf capacity (Some pace) before after = IsPace capacity before after pace

-- the paces that are known are those of the first moments
abbrev pub ArePaces : Option ℚ → List lists.Waits → List (Option Pace) → Type 0
ArePaces capacity waits paces = Along (IsPaceIf capacity) waits paces

abbrev pub change_of : Pace → ℚ
change_of pace = pace.change

-- the pace of an empty queue
abbrev pub level : ℚ → Pace
level rate = record { rate = rate; change = 0ℚ }

-- an empty queue at the end of a piece
abbrev pub level_over : Point → Option ℚ → Over
level_over end rate = record {
  empty = None;
  end = record { time = end.0; amount = end.1; queue = 0ℚ };
  pace = option_map level rate;
}

-- the first of the moments of a piece
abbrev pub first_waits : Option lists.Waits → lists.Waits → lists.Waits
first_waits None end = end
first_waits (Some empty) end = empty

-- the pace up to the first of the moments of a piece, if it is known
abbrev pub IsPaced : Option ℚ → lists.Waits → Over → Type 0
IsPaced capacity before over = IsPaceIf capacity over.pace before (first_waits over.empty over.end)

abbrev pub paces_to : Option lists.Waits → Option Pace → List (Option Pace)
paces_to None pace = pace ∷ []
paces_to (Some empty) pace = pace ∷ None ∷ []

-- the paces of the moments of a piece
abbrev pub over_paces : Over → List (Option Pace)
over_paces over = paces_to over.empty over.pace
