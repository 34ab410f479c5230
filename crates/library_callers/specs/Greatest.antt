-- The greatest queue of a link that two inflows enter.
use Rattle.std.specs.Prelude.{◌≡◌, if◌then◌else◌, List, fold, Option, Ok}
use Rattle.nf_rational.specs.Rational.{ℚ}
use Rattle.nf_rational.specs.Operations.{0ℚ, ◌+ℚ◌}
use Rattle.nf_rational.specs.Order.{◌≤ℚ◌, le_ℚ, max_ℚ}
use Rattle.nf_frac_def.specs.Passing.{Passing}
use Rattle.nf_frac_def.specs.Checked.{Checked, ◌>>=◌}
use Rattle.nf_model.specs.Curve.{Point, Within, NeverFalls, value}
use Rattle.nf_model.specs.Queue.{IsQueue}
use Rattle.nf_curve_def.specs.Values.{checked_value}
use Rattle.nf_curve_def.specs.Sums.{checked_sum}
use Rattle.nf_load_def.specs.Loading.{checked_loading}

-- the amount is 0 at time 0 and never falls
pub record IsInflow (points : List (ℚ × ℚ)) : Type 0 where
  pub begins : value points 0ℚ ≡ 0ℚ
  pub rises : NeverFalls (value points)

-- the amount that two inflows supply together by a time
abbrev pub both : List (ℚ × ℚ) → List (ℚ × ℚ) → ℚ → ℚ
both first second time = value first time +ℚ value second time

-- it is the queue at some time of [0, `last`], and no queue at a time of [0, `last`] is greater
pub record IsGreatestQueue (capacity : Option ℚ) (amount : ℚ → ℚ) (last greatest : ℚ) : Type 0 where
  pub taken : (time : ℚ) × Within 0ℚ last time × IsQueue capacity amount time greatest
  pub bound : (time queue : ℚ) → Within 0ℚ last time → IsQueue capacity amount time queue → queue ≤ℚ greatest

-- the greater of a value and that of a point, if the point's time is at most `last`
abbrev pub taller : ℚ → ℚ → Point → ℚ
taller last so_far p = if le_ℚ p.0 last then max_ℚ so_far p.1 else so_far

-- the operations of the greatest value: those of the value at `last`
unfoldable pub checked_greatest : Passing → List Point → ℚ → Checked ℚ
checked_greatest passes points last = do
  end ← checked_value passes points last
  Ok (fold (taller last) end points)

-- the operations of the greatest queue: those of the sum, of the loading, and of the greatest value
unfoldable pub checked_greatest_queue : Passing → ℚ → Option ℚ → List Point → List Point → ℚ → Checked ℚ
checked_greatest_queue passes transit capacity first second last = do
  inflow ← checked_sum passes first second
  loaded ← checked_loading passes transit capacity inflow last
  checked_greatest passes loaded.queue last
