-- Remainders of a loading's operation sequence.
use Rattle.std.specs.Prelude.{◌≡◌, List, Option, Ok, map}
use Rattle.nf_rational.specs.Rational.{ℚ}
use Rattle.nf_frac_def.specs.Passing.{Passing}
use Rattle.nf_frac_def.specs.Checked.{Checked, checked, each, ◌>>=◌}
use Rattle.nf_frac_def.specs.declared.Op.TheVariants.{Sum}
use Rattle.nf_model.specs.Curve.{Point, IsCurve}
use Rattle.nf_curve_def.specs.Values.{checked_cut}
use Rattle.nf_curve_def.specs.Short.{checked_short}
use Rattle.nf_load_def.specs.Loading.{Waits, Exit, Loaded, queue_point, exit_point, outflow_points, exit_of, all_waits}

-- the moments of exits
abbrev pub moments_of : List Exit → List Waits
moments_of all = map (λ one. one.waits) all

-- the operations after the whole outflow is known
unfoldable pub in_short_form : Passing → List Waits → List Exit → List Point → Checked Loaded
in_short_form passes waits all whole = do
  queue ← checked_short passes (map queue_point waits)
  outflow ← checked_short passes whole
  exit ← checked_short passes (map exit_point all)
  Ok (record { queue = queue; outflow = outflow; exit = exit })

-- the operations after the exits are known
unfoldable pub until_transit : Passing → ℚ → List Waits → List Exit → ℚ → Checked Loaded
until_transit passes transit waits all last = do
  end ← checked passes Sum last transit
  whole ← checked_cut passes (outflow_points all) end
  in_short_form passes waits all whole

-- the operations after the inflow is cut at `last`
unfoldable pub behind_cut : Passing → ℚ → Option ℚ → List Point → ℚ → Checked Loaded
behind_cut passes transit capacity cut last = do
  waits ← all_waits passes capacity cut
  all ← each (exit_of passes capacity transit) waits
  until_transit passes transit waits all last

-- the queue, exit and outflow points each satisfy `IsCurve`
pub record AreLoadCurves (waits : List Waits) (all : List Exit) : Type 0 where
  pub queue : IsCurve (map queue_point waits)
  pub exit : IsCurve (map exit_point all)
  pub outflow : IsCurve (outflow_points all)

-- the moments and exits of the inflow `cut`, if no operation passes, satisfy `AreLoadCurves`
abbrev pub LeadsToCurves : Passing → ℚ → Option ℚ → List Point → Type 0
LeadsToCurves passes transit capacity cut = (waits : List Waits) (all : List Exit) → all_waits passes capacity cut ≡ Ok waits
    → each (exit_of passes capacity transit) waits ≡ Ok all → AreLoadCurves waits all
